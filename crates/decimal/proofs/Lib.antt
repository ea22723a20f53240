pub mod Pairs
pub mod Leading
