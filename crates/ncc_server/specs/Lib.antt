pub mod Answered
pub mod Shelved
pub mod Serving
pub mod Live
