pub mod Bare
pub mod Comparing
pub mod Internal
