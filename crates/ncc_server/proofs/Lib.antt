pub mod Lists
pub mod Alive
pub mod Given
pub mod Turning
pub mod Ending
pub mod Settles
pub mod Shelves
