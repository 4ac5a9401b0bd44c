pub mod Shapes
pub mod KeptLocks
