pub use Rattle.script_words.specs.Telling
pub mod LabelPlaces
pub mod Drafting
pub mod Reading
