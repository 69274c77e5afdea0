pub mod ListLemmas
pub mod ChainLemmas
pub mod LooseLemmas
pub mod PassLemmas
pub mod LoopLemmas
pub mod PartLemmas
pub mod CountLemmas
pub mod RunsLemmas
