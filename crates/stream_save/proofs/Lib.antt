pub mod HeadLemmas
pub mod WaitLemmas
pub mod ReadLemmas
pub mod LawLemmas
pub mod EntryLemmas
pub mod CountLemmas
pub mod BackLemmas
