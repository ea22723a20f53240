pub mod Searches
pub mod Narrowing
pub mod Finding
