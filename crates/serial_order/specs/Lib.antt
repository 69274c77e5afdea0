pub mod Places
pub mod Serials
