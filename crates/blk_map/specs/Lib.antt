pub mod Found
pub mod Growing
pub mod Named
pub mod Pointing
pub mod Runs
