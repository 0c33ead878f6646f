pub mod Translation
pub mod Worked
pub mod Behind
pub mod Internal
