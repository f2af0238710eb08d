pub mod BitLaws
pub mod Laws
pub mod Sets
pub mod Examples
pub mod Determined
pub mod History
pub mod RulesOut
