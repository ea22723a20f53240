pub mod Falling
pub mod Running
