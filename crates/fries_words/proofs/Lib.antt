pub mod AppLemmas
pub mod FormLemmas
pub mod RowLemmas
pub mod TopicRules
pub mod TopicLemmas
pub mod WalkLemmas
pub mod TakesLemmas
pub mod TopicTakes
