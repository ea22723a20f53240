pub mod Carry
pub mod Run
pub mod Ready
pub mod Claims
