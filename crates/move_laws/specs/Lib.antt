pub mod Orders
pub mod Ranks
pub mod Demand
