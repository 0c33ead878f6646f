pub mod FirstFailures
pub mod ConditionLemmas
pub mod SetLemmas
pub mod Walking
