pub mod End
pub mod InTime
