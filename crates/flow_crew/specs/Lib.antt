pub mod Sides
pub mod Sorted
pub mod Crews
pub mod Ended
