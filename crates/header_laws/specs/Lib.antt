pub mod Gates
pub mod Calls
