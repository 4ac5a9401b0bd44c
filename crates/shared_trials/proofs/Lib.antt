mod Desks
pub mod Diaries
pub mod PairSteps
pub mod SampleSteps
pub mod ValidPair
pub mod Working
