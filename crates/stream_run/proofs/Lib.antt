pub mod PartLemmas
pub mod PartRunLemmas
pub mod GoesLemmas
pub mod SavedLemmas
mod StepLemmas
