pub mod Adjusted
pub mod Passed
