pub mod Line
pub mod Script
pub mod Progress
pub mod Replay
pub mod Reading
pub mod Report
pub mod StatusText
