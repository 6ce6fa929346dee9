pub mod FilterLemmas
pub mod MergedLemmas
pub mod FragmentLemmas
pub mod LeftOutLemmas
pub mod ReachLemmas
pub mod ReasonLemmas
