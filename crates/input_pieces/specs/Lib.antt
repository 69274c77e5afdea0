pub mod Cut
pub mod Taps
pub mod Places
pub mod Gathering
