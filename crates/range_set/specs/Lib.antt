pub mod Set
pub mod History
