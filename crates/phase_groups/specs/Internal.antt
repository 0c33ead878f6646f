-- What only private contracts and proofs cite: nobody has to read it to trust a promise of this crate.
pub mod Agreement
pub mod Taking
pub mod Noting
