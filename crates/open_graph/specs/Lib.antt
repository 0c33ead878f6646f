pub mod Planes
pub mod Turns
pub mod Rooms
pub mod OpenGraph
pub mod Sides
pub mod VertexSets
pub mod Internal
