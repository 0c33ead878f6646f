pub mod Bounds
pub mod Optimising
pub mod Internal
