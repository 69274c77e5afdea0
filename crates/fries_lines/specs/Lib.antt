pub mod Faults
pub mod FaultWords
pub mod Lines
