pub mod Agree
pub mod Determined
pub mod Turns
pub mod Verdicts
