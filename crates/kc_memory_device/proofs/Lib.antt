pub mod StrippedLemmas
pub mod RecordLemmas
pub mod ReadLemmas
pub mod ToldLemmas
