pub mod Circuits
pub mod Internal
