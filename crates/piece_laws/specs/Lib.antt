pub mod Places
pub mod Replacement
pub mod Reordering
pub mod Walks
