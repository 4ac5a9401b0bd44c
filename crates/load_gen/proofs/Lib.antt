pub mod Labels
pub mod NextRound
