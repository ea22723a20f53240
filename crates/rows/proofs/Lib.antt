pub mod Spans
pub mod Runs
