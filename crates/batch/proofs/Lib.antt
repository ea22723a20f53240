pub mod Passing
pub mod Pairs
pub mod Walk
pub mod Tests
