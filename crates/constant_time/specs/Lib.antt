pub mod Agree
