pub mod ChainLemmas
mod CloseLemmas
mod OpenLemmas
mod WalkLemmas
