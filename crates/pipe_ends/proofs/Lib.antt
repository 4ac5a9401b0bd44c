pub mod StandingLemmas
pub mod LinkLemmas
pub mod RelinkLemmas
