pub mod Waiting
pub mod Room
pub mod Tree
pub mod TreeFalls
