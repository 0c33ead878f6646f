-- What only private contracts and proofs cite: nobody has to read it to trust a promise of this
-- crate.
pub mod Choosing
pub mod Extracted
pub mod FrontGraphs
pub mod Frontiers
pub mod Holders
pub mod Leading
pub mod Lists
pub mod Steps
