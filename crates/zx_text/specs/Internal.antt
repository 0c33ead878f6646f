-- What only private contracts and proofs cite: nobody has to read it to trust a promise of this crate.
pub mod Taking
pub mod Stepping
pub mod Lined
pub mod Answers
pub mod Parts
pub mod Readers
pub mod Said
pub mod GraphFormat
pub mod Writing
pub mod SmallNumbers
