pub mod Copies
pub mod Fields
