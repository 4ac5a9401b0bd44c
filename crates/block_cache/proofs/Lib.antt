pub mod TrueLemmas
