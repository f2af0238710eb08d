pub mod Places
pub mod Found
pub mod Kept
pub mod Laws
pub mod Determined
