pub mod Asking
pub mod Rule
pub mod Line
pub mod Hearing
pub mod Kept
