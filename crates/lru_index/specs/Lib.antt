pub mod Buckets
pub mod Chain
pub mod Index
pub mod Keys
pub mod NameKeys
pub mod Order
