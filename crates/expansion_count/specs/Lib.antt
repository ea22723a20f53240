pub mod Given
pub mod Growths
pub mod Made
