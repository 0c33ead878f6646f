pub mod Fusing
pub mod Homes
pub mod Phases
pub mod Building
