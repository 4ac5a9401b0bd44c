pub mod EventLines
pub mod Pieces
