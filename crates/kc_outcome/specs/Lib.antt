-- The outcome of a run, in two chapters.
pub mod Explanations
pub mod Outcome
