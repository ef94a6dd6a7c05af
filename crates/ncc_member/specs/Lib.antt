pub mod Event
pub mod Journaled
pub mod Answers
pub mod Room
pub mod Opening
