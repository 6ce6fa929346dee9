-- The definitions that the contracts use.
pub mod Causes
pub mod PartsOfOutcome
pub mod RunErrors
pub mod Warnings
