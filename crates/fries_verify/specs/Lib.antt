pub mod Streams
pub mod Audits
pub mod StreamSetup
pub mod inner
pub mod Whole
