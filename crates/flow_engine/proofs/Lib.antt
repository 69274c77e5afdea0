pub mod FlownLemmas
pub mod Moving
pub mod Over
