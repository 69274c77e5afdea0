pub mod FaultWords
pub mod Noting
