pub mod Lent
pub mod GoingOn
pub mod TreeLent
pub mod TreeGoing
