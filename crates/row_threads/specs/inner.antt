pub mod Joined
pub mod Shares
