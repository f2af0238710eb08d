pub mod Calls
pub mod Conns
pub mod Facts
pub mod Lists
pub mod Places
pub mod Steps
pub mod Tabled
