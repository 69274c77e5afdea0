pub mod Stream
pub mod Later
pub mod PartRun
pub mod LateRequest
pub mod Border
