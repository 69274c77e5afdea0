pub mod NodeLemmas
pub mod CellLemmas
pub mod ReadLemmas
pub mod OrderLemmas
pub mod NamedLemmas
pub mod IssuedLemmas
pub mod SheetLemmas
