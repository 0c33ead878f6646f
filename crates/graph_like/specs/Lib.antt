-- What only private contracts and proofs cite stands in Internal: nobody has to read it to trust what this crate says.
pub mod Classes
pub mod LikeForm
pub mod Internal
