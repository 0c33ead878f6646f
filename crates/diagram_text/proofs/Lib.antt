pub mod EdgeLemmas
pub mod LineLemmas
pub mod StepLemmas
pub mod SaidLemmas
pub mod LeadsLemmas
pub mod StopLemmas
