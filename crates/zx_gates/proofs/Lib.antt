pub mod LoweringLemmas
pub mod MapLemmas
pub mod Multiples
pub mod UnitaryLemmas
pub mod WorkedLemmas
pub mod Scaling
pub mod Passing
pub mod Nonzero
