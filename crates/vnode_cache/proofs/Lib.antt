pub mod FillLemmas
pub mod HeldLemmas
pub mod LooseLemmas
pub mod OrderLemmas
pub mod TrueLemmas
