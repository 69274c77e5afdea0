pub mod NumberedLemmas
pub mod NewLemmas
pub mod TableLemmas
pub mod LineLemmas
