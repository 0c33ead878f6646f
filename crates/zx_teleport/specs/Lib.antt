pub mod Scalars
pub mod Internal
pub mod Together
