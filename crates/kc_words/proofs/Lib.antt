pub mod ApartLemmas
pub mod GoalLemmas
pub mod NumberLemmas
pub mod PartLemmas
pub mod PlaceLemmas
pub mod RequestLemmas
pub mod RowLemmas
pub mod RefusalLemmas
