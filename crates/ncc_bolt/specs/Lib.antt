pub mod Tags
pub mod Fields
pub mod Messages
pub mod Table
pub mod Reading
pub mod Writing
pub mod Offence
