pub mod HeaderScope
pub mod OneProgram
pub mod Placing
