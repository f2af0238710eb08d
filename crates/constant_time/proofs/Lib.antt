pub mod Laws
pub mod Theorems
pub mod Examples
pub mod Determined
