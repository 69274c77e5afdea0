pub mod Bringing
pub mod Keeps
pub mod Totals
pub mod Fixed
pub mod Turns
