pub mod Asking
pub mod Causing
pub mod Grouping
pub mod Headlines
pub mod Histories
pub mod Numbers
pub mod Outcomes
pub mod Puts
