pub mod FedLemmas
pub mod LawLemmas
pub mod LaneLemmas
pub mod CourseLemmas
