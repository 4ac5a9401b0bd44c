pub mod KeyLemmas
pub mod TrueLemmas
