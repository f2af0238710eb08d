pub mod Sets
pub mod Laws
pub mod Examples
pub mod Determined
pub mod Form
pub mod History
