pub mod AccountLemmas
pub mod HeldLemmas
pub mod JoinedLemmas
pub mod StepLemmas
