pub mod Sizes
pub mod Fine
pub mod Shorter
pub mod Laws
pub mod Determined
