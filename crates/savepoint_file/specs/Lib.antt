pub mod ByNode
pub mod Steps
pub mod Views
