pub mod Faults
pub mod Opened
pub mod Unopened
pub mod Ended
