-- The lemmas, for this crate and for those above it.
pub mod CauseLemmas
