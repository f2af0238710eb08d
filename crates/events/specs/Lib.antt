pub mod Modules
pub mod Events
