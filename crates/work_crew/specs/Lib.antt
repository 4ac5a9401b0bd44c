pub mod Whole
pub mod Working
