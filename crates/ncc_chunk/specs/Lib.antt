pub mod Handshake
pub mod Chunks
pub mod Inflow
pub mod Keeping
pub mod Chunked
pub mod Messages
pub mod Laws
