pub mod ByLane
pub mod Standing
pub mod Restored
pub mod Untold
