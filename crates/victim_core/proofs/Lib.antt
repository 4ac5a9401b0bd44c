pub mod GreatestLemmas
pub mod JudgingLemmas
