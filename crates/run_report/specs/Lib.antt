pub mod Reports
pub mod Headline
pub mod Histories
pub mod Summaries
