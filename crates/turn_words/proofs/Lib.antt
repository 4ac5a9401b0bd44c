mod Counts
mod Ends
pub mod Held
mod Joining
mod Keeps
pub mod Lists
mod Merging
pub mod Notes
mod Seated
mod Tickets
mod Turning
mod Views
