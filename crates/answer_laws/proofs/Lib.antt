pub mod NoWant
pub mod Faults
pub mod Exits
pub mod Shapes
pub mod KeptLocks
pub mod Failing
pub mod GoingOn
pub mod Blocking
