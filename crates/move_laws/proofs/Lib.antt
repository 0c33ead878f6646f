pub mod FlowOrders
pub mod Ranks
pub mod DemandLemmas
