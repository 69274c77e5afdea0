pub mod SoundLemmas
pub mod NumberLemmas
pub mod StartLemmas
pub mod MarkLemmas
pub mod ReadLemmas
