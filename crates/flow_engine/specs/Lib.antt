pub mod Flown
pub mod Recorded
pub mod inner
