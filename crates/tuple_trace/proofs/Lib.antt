pub mod DigitLemmas
pub mod BlankLemmas
