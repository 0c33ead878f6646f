pub mod Elements
pub mod Measuring
pub mod Written
pub mod Internal
