pub mod FirstWords
pub mod Lines
pub mod Placing
pub mod StatementWords
