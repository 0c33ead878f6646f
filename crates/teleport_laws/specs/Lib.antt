pub mod Shifts
pub mod Spots
pub mod Groups
pub mod Internal
