pub mod AuditLemmas
pub mod AlertLemmas
pub mod WaitingLemmas
pub mod LiveLemmas
pub mod StreamLemmas
pub mod AgainLemmas
pub mod PartLemmas
pub mod TurnLemmas
mod MovedLemmas
mod CapLemmas
mod WholeLemmas
mod OneRunLemmas
mod EndedLemmas
