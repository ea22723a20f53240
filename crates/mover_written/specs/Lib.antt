pub mod Carry
pub mod Run
pub mod Ready
pub mod Steps
pub mod Claims
pub mod WrittenClaims
