pub mod Slots
pub mod Looking
pub mod Listed
