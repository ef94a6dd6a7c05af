pub mod Kinds
pub mod Frames
pub mod Reading
pub mod Judged
pub mod Laws
pub mod Worked
