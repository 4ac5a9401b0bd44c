pub mod MapsSteps
pub mod Telling
