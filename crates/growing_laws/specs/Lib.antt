pub mod Growing
pub mod Renaming
pub mod Growth
pub mod Internal
