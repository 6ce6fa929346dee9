pub mod ListSteps
pub mod PlacesLemmas
pub mod SparseLemmas
pub mod UserLemmas
