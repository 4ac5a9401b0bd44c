pub mod Paying
pub mod Prices
pub mod Standing
pub mod Worlds
