mod IntakeLemmas
pub mod MaskLemmas
mod GoneLemmas
