pub mod ExactLemmas
pub mod OrderLemmas
pub mod CourseLemmas
