pub mod Judging
pub mod Stored
pub mod Victims
