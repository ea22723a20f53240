pub mod Answers
pub mod Passed
pub mod Turns
pub mod Walk
