pub mod FileChange
pub mod Ranges
