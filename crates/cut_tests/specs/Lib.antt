-- What the tests' own functions answer, and what a run keeps of its counts.
pub mod Words
pub mod Tables
pub mod Counts
pub mod Rows
pub mod Text
