-- What private contracts and proofs alone cite, such as the proof of what the header's texts declare: nobody has to
-- read it to trust a promise of this crate.
pub mod HeaderText
pub mod Numerals
