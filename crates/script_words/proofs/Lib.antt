pub mod Faults
pub mod FewWords
pub mod Fronts
pub mod HexDigits
pub mod Joined
pub mod Numbers
pub mod Told
