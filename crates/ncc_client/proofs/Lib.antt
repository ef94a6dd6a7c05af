pub mod Named
pub mod Lists
pub mod Going
pub mod Ahead
pub mod Joining
pub mod Starting
pub mod Asking
pub mod Ending
