pub mod RowLemmas
mod EndLemmas
mod TimeLemmas
