pub mod Addresses
pub mod Routing
