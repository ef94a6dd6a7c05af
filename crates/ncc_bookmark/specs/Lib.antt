pub mod Point
pub mod Reading
pub mod Spelling
pub mod Texts
