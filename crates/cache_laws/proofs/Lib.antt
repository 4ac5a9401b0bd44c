pub mod KeepsLemmas
