pub mod Counts
pub mod TextMap
