pub mod Queue
pub mod History
