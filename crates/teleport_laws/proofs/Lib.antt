pub mod Shifting
pub mod Carrying
pub mod Runs
pub mod Forwards
pub mod Resting
pub mod Grouping
pub mod Parities
pub mod Placing
