pub mod Bounds
pub mod Left
pub mod Examples
pub mod Told
