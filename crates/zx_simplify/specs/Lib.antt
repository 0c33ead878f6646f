pub mod Compiled
pub mod Scaling
pub mod Extracting
pub mod Circuits
