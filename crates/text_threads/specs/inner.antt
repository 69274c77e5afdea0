pub mod Pieces
pub mod Shares
