pub mod Tags
pub mod Steps
pub mod Rights
pub mod Spoken
