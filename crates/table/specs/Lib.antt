pub mod Placing
pub mod Formed
