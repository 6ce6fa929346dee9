-- The definitions that the contracts speak in.
pub mod Entries
pub mod EntryStarts
pub mod ListFacts
pub mod PartsOfExpansion
pub mod PartsOfStatements
pub mod PartsOfSymbols
pub mod StatementViews
pub mod WellFormed
