pub mod AllowedLemmas
pub mod AssignLemmas
pub mod BlankLemmas
mod CallLemmas
pub mod DefinedLemmas
pub mod EscapeLemmas
mod FedLemmas
pub mod FeedLemmas
pub mod GivesLemmas
pub mod InTurnLemmas
mod LineLaws
pub mod LineLemmas
pub mod LongLineLemmas
pub mod OpenLemmas
pub mod PlaceLemmas
pub mod QuotedLemmas
mod ReaderLemmas
pub mod ReadingLemmas
pub mod RoundTripLemmas
pub mod StepEffects
mod StepLemmas
pub mod StreamLemmas
pub mod SymbolLineLemmas
pub mod TextBytes
pub mod WholeLinesLemmas
