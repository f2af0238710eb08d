pub mod Determined
pub mod Examples
pub mod Frees
pub mod Opens
pub mod Rejects
pub mod Wants
