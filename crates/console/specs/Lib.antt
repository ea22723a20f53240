pub mod Rack
pub mod Kept
pub mod Listing
