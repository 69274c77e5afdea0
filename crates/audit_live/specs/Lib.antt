pub mod Shown
pub mod Live
