pub mod Search
pub mod Moving
pub mod Traces
pub mod Scaling
pub mod Internal
