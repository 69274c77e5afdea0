pub mod Steps
pub mod LoadLemmas
pub mod HearLemmas
