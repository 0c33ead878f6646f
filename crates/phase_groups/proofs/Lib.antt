pub mod Negating
pub mod Agreeing
pub mod Following
pub mod FollowedRuns
