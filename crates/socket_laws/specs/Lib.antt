pub mod QueueRuns
pub mod SocketRuns
pub mod WorkedSockets
