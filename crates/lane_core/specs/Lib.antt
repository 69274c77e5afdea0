pub mod Lane
pub mod Steady
pub mod Rule
