pub mod Lines
pub mod Files
pub mod Reading
pub mod Internal
