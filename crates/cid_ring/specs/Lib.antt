pub mod Cids
