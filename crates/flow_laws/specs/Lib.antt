pub mod Later
pub mod Determined
