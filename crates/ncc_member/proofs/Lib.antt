pub mod Bounds
pub mod Turning
pub mod Opened
