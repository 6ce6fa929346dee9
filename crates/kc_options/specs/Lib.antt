pub mod Asked
pub mod PartsOfOutcome
