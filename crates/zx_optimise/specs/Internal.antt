-- What private contracts alone cite.
pub mod Making
pub mod Candidates
