pub mod Flows
pub mod Changes
pub mod VertexSets
pub mod Internal
