pub mod Falls
pub mod Turns
pub mod Written
