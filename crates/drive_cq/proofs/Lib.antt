pub mod Lists
pub mod Determined
pub mod Examples
