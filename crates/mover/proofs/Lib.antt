pub mod Copies
pub mod Spots
pub mod Replies
pub mod Runs
pub mod Alike
pub mod Worked
