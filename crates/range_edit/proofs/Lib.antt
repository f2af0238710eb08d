pub mod Laws
pub mod Insert
pub mod Remove
pub mod Within
pub mod Changes
pub mod Determined
