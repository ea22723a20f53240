pub mod Grows
pub mod Moves
pub mod Same
