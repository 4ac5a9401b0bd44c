pub mod Disk
pub mod Faults
pub mod OldInode
pub mod Vacant
