pub mod Lanes
pub mod Stores
