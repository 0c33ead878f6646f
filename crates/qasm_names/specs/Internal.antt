-- What only private contracts and proofs cite: nobody has to read it to trust a promise of this crate.
pub mod Called
pub mod Entries
pub mod HeaderTable
pub mod Registers
pub mod Applications
pub mod PlacedAngles
