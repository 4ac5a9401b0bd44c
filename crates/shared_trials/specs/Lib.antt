pub mod Desk
pub mod Pair
pub mod Sample
pub mod Workers
