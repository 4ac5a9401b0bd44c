pub mod Unread
pub mod Many
pub mod Moving
