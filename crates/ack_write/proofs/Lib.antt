pub mod Laws
pub mod Examples
pub mod Theorems
pub mod Determined
