pub mod Claiming
pub mod Waiting
pub mod Setting
