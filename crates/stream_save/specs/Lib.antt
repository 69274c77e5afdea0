pub mod StreamText
pub mod StreamReading
pub mod FaultWords
pub mod SavedStream
pub mod Steps
