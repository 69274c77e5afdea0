pub mod PieceLemmas
pub mod PortLemmas
pub mod OutputLemmas
pub mod EdgeLemmas
pub mod CountLemmas
