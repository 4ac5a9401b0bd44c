pub mod Chained
pub mod Held
pub mod Moving
