pub mod Laws
pub mod Examples
pub mod Shortest
pub mod Nearest
pub mod Reading
pub mod RoundTrip
pub mod RulesOut
pub mod Determined
