pub mod Internal
pub mod Scaling
