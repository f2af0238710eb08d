pub mod Laws
pub mod Examples
pub mod Exact
pub mod Only
pub mod Round
pub mod RulesOut
pub mod Determined
