pub mod Resting
pub mod Settling
pub mod Staying
pub mod ValidPrograms
pub mod Waiting
pub mod Asking
pub mod PathLengths
