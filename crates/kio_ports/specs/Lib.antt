pub mod Faults
pub mod Calls
pub mod Streams
pub mod Adapters
pub mod Offers
