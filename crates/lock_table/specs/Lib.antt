pub mod Reordered
pub mod Chain
pub mod Holding
pub mod Setting
pub mod Walking
