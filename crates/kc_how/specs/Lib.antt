pub mod How
pub mod FixTexts
pub mod Questions
pub mod FixCosts
pub mod Merged
pub mod Fragments
