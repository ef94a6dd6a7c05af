pub mod Equal
pub mod State
pub mod Spelled
pub mod Items
pub mod Fields
pub mod Kept
