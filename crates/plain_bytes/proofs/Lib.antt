pub mod PlaceLemmas
pub mod ManyLemmas
pub mod KeptLemmas
