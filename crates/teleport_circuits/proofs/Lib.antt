pub mod Moving
pub mod WithPhases
pub mod Agreeing
pub mod Teleporting
pub mod Quotients
pub mod OddPhases
