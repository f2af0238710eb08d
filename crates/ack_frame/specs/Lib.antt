pub mod Grammar
pub mod Read
