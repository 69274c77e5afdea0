pub mod Apps
pub mod Asked
pub mod Form
pub mod Help
pub mod Stream
pub mod Views
pub mod Words
