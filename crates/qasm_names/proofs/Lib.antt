pub mod Tests
pub mod Formulas
pub mod Symbols
pub mod PlaceLemmas
pub mod CheckLemmas
pub mod BodyLemmas
pub mod NumeralLemmas
pub mod Including
