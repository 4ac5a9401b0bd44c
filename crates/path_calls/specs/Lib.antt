pub mod Replies
pub mod Nodes
