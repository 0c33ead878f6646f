mod Quotients
mod WireSums
mod BareGraphs
mod GateEquality
mod WireWalks
mod Comparisons
mod EndTransforms
mod Meetings
mod IdentityGraphs
mod Deciding
mod OneMaps
pub mod Leaving
