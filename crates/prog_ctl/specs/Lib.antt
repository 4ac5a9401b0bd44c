pub mod Runnable
pub mod Waits
