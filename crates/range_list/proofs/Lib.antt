pub mod Laws
pub mod Sound
pub mod Canon
pub mod Ascending
pub mod Kept
pub mod Shortest
pub mod Determined
