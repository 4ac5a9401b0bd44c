pub mod Components
pub mod Steps
pub mod SmallTrees
