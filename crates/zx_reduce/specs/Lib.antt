pub mod Reducing
pub mod Grown
pub mod Grouped
pub mod Scaling
pub mod Internal
