pub mod Drains
pub mod Stores
