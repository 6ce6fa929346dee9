pub mod HintLemmas
pub mod LineLemmas
pub mod PageLemmas
pub mod ShownLemmas
