-- What private contracts alone cite.
pub mod Parts
pub mod Refusals
pub mod Verdicts
pub mod ErrorAnswers
