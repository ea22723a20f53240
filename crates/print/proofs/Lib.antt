pub mod Stores
pub mod Lines
