pub mod Claims
pub mod SameEntry
pub mod Turns
pub mod Follows
pub mod Worked
