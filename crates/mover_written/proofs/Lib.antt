pub mod Copies
pub mod Spots
pub mod Replies
pub mod Steps
pub mod Runs
pub mod Alike
pub mod Written
pub mod Worked
