pub mod Determined
pub mod Entries
pub mod Shape
pub mod Strips
pub mod Tables
