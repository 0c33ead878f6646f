pub mod AppliedGates
pub mod Begun
pub mod Bodies
pub mod Checks
pub mod Internal
pub mod Kept
pub mod Places
