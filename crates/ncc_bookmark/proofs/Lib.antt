pub mod Texts
pub mod Greatest
pub mod Naming
