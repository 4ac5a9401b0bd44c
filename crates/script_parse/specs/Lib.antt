pub mod SocketScript
