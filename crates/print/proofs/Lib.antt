pub mod Laws
pub mod RoundTrip
pub mod Determined
pub mod Examples
