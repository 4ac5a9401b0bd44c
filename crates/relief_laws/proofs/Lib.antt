pub mod Counting
pub mod Lowering
pub mod Answering
pub mod Helping
pub mod Histories
