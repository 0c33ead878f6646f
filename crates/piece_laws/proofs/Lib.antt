pub mod Matrices
pub mod Reorderings
pub mod Replacements
pub mod Gathering
pub mod Placements
pub mod Scaling
