pub mod Wheres
