pub mod Calls
pub mod Words
pub mod Line
pub mod StatusNumber
pub mod Working
pub mod Turning
