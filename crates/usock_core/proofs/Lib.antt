pub mod StandingLemmas
pub mod StepLemmas
pub mod CallLemmas
pub mod CloseLemmas
pub mod ConnectLemmas
pub mod HeldLemmas
pub mod OneTable
pub mod NamedLemmas
