pub mod TrueCaches
pub mod NodesInUse
