pub mod PieceLemmas
pub mod ShareLemmas
