pub mod CoverLemmas
pub mod LawLemmas
pub mod GatherLemmas
pub mod EmptyLemmas
pub mod PlanLemmas
pub mod NumberLemmas
pub mod MemberLemmas
