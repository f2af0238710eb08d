pub mod Acks
pub mod History
