pub mod Laws
pub mod Determined
pub mod Examples
