pub mod Laws
pub mod AtLimit
pub mod Determined
pub mod Members
pub mod Examples
pub mod History
