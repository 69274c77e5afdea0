pub mod Crewing
pub mod Feeding
pub mod Whole
