-- The definitions that the contracts use.
pub mod Constants
pub mod Existing
pub mod Expanded
pub mod Expansion
pub mod Files
pub mod LineReads
pub mod Lines
pub mod NextStep
pub mod OpenedFiles
pub mod Progress
pub mod QuietFiles
pub mod RefusalView
pub mod Replaced
pub mod Scopes
pub mod SourceSteps
