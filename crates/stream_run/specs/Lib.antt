pub mod Parts
pub mod Files
pub mod Growing
pub mod Standing
pub mod Unwritten
