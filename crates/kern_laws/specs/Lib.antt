pub mod Sleeping
pub mod WorkedFamily
pub mod TwoProcesses
pub mod Filled
