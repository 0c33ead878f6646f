pub mod Frontiers
pub mod Stuck
pub mod Found
pub mod Internal
