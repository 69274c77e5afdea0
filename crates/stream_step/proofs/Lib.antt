pub mod PendingLemmas
pub mod PartLemmas
pub mod ResumeLemmas
