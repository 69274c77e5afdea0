pub mod Runs
pub mod Delivery
pub mod SoFar
pub mod Executor
pub mod Replays
