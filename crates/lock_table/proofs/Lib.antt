pub mod Reordering
pub mod Earliest
pub mod Keeping
pub mod Setting
pub mod Chaining
pub mod WalkLemmas
pub mod Tables
