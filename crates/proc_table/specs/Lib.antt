pub mod Procs
pub mod Changes
pub mod Table
pub mod Moves
pub mod Standing
pub mod Accounting
pub mod Opening
