pub mod CutLemmas
pub mod ScanLemmas
pub mod PieceLemmas
pub mod PlainLemmas
pub mod TapLemmas
