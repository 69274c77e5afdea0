pub mod RowLemmas
pub mod TwoCallsLemmas
