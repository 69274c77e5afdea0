pub mod AcceptedLemmas
pub mod BookLemmas
pub mod FirstLemmas
pub mod JudgedLemmas
pub mod KeptLemmas
pub mod CarryLemmas
pub mod YoungLemmas
pub mod WaitingLemmas
