pub mod Commuting
pub mod Tidy
pub mod Doubling
pub mod Internal
