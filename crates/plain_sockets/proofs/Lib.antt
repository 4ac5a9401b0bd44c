pub mod PlaceLemmas
pub mod TurnLemmas
pub mod StageLemmas
pub mod StepLemmas
