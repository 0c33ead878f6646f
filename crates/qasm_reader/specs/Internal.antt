-- What only private contracts and proofs cite: nobody has to read it to trust a promise of this crate.
pub mod Machine
pub mod Parsing
pub mod PartReading
pub mod Taking
