pub mod Bits
pub mod Dedup
pub mod History
