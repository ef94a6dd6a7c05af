pub mod View
pub mod Runs
pub mod Shelf
pub mod Meant
