pub mod Issuing
pub mod Cells
pub mod Parts
pub mod Reading
pub mod Telling
