pub mod Walk
pub mod Replies
