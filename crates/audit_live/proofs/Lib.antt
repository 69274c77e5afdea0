pub mod FeedLemmas
pub mod WaitLemmas
pub mod RecordLemmas
pub mod LiveLemmas
