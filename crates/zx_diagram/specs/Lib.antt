pub mod Diagram
pub mod Sum
