-- What only private contracts and proofs cite: nobody has to read it to trust a promise of this crate.
pub mod Rows
pub mod Slots
pub mod Room
pub mod Table
pub mod Lending
pub mod Changes
pub mod Sides
