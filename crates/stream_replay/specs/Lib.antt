pub mod InParts
pub mod Runs
pub mod Loose
pub mod Faults
pub mod inner
