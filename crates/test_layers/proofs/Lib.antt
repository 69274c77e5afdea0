mod LaneLemmas
mod MarkLemmas
mod RowLemmas
