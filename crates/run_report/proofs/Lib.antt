pub mod EntryLines
pub mod Telling
pub mod Headlines
