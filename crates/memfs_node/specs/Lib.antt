pub mod NodeOnDisk
pub mod Slots
pub mod Dots
