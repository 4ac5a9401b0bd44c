-- What processes have open, and what that is open on: descriptors, open descriptions, pipes, sockets and the tree of files.
pub mod Descriptors
pub mod Descriptions
pub mod State
pub mod SocketNames
pub mod Closing
pub mod Bare
pub mod Whole
