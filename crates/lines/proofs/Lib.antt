pub mod Spans
pub mod Words
pub mod Bytes
pub mod Matches
pub mod Numbers
pub mod Asking
pub mod Reading
pub mod Cutting
