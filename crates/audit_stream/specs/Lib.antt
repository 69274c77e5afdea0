pub mod Together
pub mod Places
pub mod Told
pub mod Sorting
