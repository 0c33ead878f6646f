pub mod Statements
pub mod Lines
pub mod Maps
pub mod GateLines
pub mod Continuing
pub mod WrittenLemmas
pub mod Naming
pub mod LineScalars
