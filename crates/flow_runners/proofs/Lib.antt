pub mod Uniting
pub mod Order
pub mod Seating
pub mod Crewing
pub mod Fed
