pub mod Runner
pub mod Rule
pub mod Size
