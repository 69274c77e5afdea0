pub mod Pairs
pub mod Endpoints
pub mod Masks
pub mod Worker
pub mod Parts
pub mod Steps
pub mod Turning
