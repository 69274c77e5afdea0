pub mod DocumentLemmas
pub mod EntryLemmas
pub mod ItemLemmas
pub mod JobLemmas
pub mod PartLemmas
pub mod SizeLemmas
pub mod WideLemmas
