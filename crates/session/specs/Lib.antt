pub mod Held
pub mod Maps
pub mod Claims
