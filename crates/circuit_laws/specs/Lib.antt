pub mod Followed
pub mod Gates
pub mod Peeling
pub mod Worked
