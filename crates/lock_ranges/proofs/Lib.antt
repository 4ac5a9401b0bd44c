pub mod Places
pub mod Joining
pub mod Meaning
pub mod Shape
pub mod Unique
pub mod Conflicts
pub mod Widening
