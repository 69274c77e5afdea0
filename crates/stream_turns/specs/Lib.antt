pub mod Later
pub mod Turns
pub mod Taken
