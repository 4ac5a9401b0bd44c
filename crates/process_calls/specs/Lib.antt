pub mod Endings
pub mod Ending
pub mod Spaces
