pub mod Machines
pub mod Fitting
pub mod Choosing
pub mod Stepping
pub mod Runs
