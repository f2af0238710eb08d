pub mod Laws
pub mod Outcomes
pub mod Theorems
pub mod Entries
pub mod History
pub mod Examples
pub mod RulesOut
pub mod Determined
