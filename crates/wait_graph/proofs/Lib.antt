pub mod Bits
pub mod Told
pub mod Walks
