pub mod Going
pub mod Folding
