pub mod Standing
pub mod Claims
