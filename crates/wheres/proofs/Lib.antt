pub mod Lines
pub mod Placing
