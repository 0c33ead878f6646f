mod Leads
mod Counting
mod Places
mod Lasts
mod Settled
mod SettledOutputs
mod Rows
mod Legs
mod Calls
mod RowToggles
mod LastVertex
mod WithoutVertex
mod SharedLegs
mod BesideRow
mod Advancing
mod VertexCalls
mod Removing
mod Taking
mod Fronts
mod Exchanges
mod Whole
pub mod HoldersTables
pub mod HoldersTurning
pub mod HoldersCounting
mod ChosenRows
mod IndependentRows
pub mod SimplifiedLemmas
