pub mod Fronts
mod Places
mod Contents
pub mod Past
pub mod Calls
mod Kept
pub mod Drawn
pub mod Runs
pub mod Moments
