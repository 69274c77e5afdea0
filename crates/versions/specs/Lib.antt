pub mod Book
pub mod Judging
pub mod Judged
pub mod Kept
pub mod Young
pub mod Waiting
