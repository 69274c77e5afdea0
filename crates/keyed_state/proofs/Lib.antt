pub mod EntryLemmas
pub mod CarryLemmas
pub mod MapLemmas
