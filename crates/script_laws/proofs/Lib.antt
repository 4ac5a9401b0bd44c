pub mod GeneratedScripts
pub mod Lists
pub mod Names
pub mod Rounds
pub mod ShortTexts
pub mod ValidRounds
