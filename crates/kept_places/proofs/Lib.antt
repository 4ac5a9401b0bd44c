pub mod Findings
pub mod Changes
