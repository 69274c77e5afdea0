pub mod Crews
pub mod Fed
