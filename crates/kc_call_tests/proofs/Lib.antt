pub mod PlaceLemmas
mod SlowSteps
