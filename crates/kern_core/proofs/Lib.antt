pub mod PickedRuns
