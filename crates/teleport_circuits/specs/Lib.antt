pub mod Circuits
pub mod Teleporting
