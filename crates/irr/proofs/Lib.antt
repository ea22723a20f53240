pub mod Answers
pub mod Grows
pub mod Moves
