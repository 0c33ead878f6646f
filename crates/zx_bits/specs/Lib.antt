pub mod Rows
pub mod Sets
pub mod Solving
pub mod Internal
