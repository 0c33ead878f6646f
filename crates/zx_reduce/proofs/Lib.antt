pub mod Ranking
pub mod GatesOrdered
pub mod Doing
pub mod Holdings
pub mod Growths
pub mod Completing
pub mod Grouping
