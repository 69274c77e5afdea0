pub mod Cut
pub mod Ahead
pub mod Texts
pub mod Reading
pub mod inner
