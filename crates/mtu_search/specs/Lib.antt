pub mod Search
pub mod Measure
pub mod Count
