pub mod Members
pub mod Cover
pub mod Parts
pub mod Plan
pub mod Laws
