-- The calls on what is open, and on the tree of files, one family in each module.
pub mod Opened
pub mod OnDescriptors
pub mod Reading
pub mod Writing
pub mod OnFiles
pub mod OnNames
pub mod Starting
pub mod OnPipes
pub mod OnSockets
pub mod OnLocks
pub mod Polling
