pub mod Words
pub mod Claims
pub mod Good
pub mod Worked
