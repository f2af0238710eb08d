pub mod Determined
pub mod Examples
pub mod Fair
pub mod Laws
