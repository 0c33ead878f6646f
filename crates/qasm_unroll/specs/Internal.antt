-- What only private contracts and proofs cite: nobody has to read it to trust a promise of this crate.
pub mod KeptCalls
pub mod KeptMeasures
pub mod KnownCalls
pub mod Recents
pub mod Spans
