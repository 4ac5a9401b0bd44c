pub mod Held
pub mod Stages
pub mod Inside
pub mod Accepting
