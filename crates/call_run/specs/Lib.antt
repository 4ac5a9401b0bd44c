pub mod Sleepers
pub mod Touching
pub mod Stores
pub mod Families
pub mod Weights
pub mod Settled
