pub mod Rooms
pub mod Safely
pub mod Applied
pub mod Internal
