pub mod Choosing
pub mod Extraction
pub mod Independence
pub mod Simplified
pub mod Internal
