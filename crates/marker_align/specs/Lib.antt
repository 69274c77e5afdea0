pub mod Hands
pub mod Decision
