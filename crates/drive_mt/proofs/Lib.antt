pub mod Determined
pub mod Examples
