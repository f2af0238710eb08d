pub mod Passing
pub mod Slice
