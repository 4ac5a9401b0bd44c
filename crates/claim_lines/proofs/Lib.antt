pub mod Reading
pub mod Cutting
pub mod Telling
pub mod Leading
