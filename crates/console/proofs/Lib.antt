pub mod Wheres
pub mod Serving
pub mod Rows
