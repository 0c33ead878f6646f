-- What only private contracts and proofs cite: nobody has to read it to trust a promise of this crate.
pub mod Guiding
pub mod Ranked
pub mod Ordering
pub mod Progress
pub mod Growing
