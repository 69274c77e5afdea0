pub mod Order
pub mod Sent
pub mod inner
