pub mod FieldLemmas
pub mod PartLemmas
pub mod CellLemmas
pub mod SmallLemmas
