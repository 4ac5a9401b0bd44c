pub mod WorkedTrees
pub mod Untouched
pub mod WorkedStreet
