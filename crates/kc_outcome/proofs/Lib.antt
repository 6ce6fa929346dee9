-- Worked examples, and the laws of explanations.
pub mod DependsOnSymbols
pub mod ExplanationParts
mod ExplanationsExamples
pub mod FactLists
pub mod FactsHold
pub mod FactsOfMembers
pub mod FactsSuffice
pub mod GivenByLines
pub mod HoldersHideIt
pub mod HoldersHold
mod OpenedTools
mod OutcomeExamples
pub mod OutputLemmas
pub mod PartsStay
pub mod SaidLines
pub mod SameEquation
pub mod SameParts
pub mod SameWords
pub mod TreeNames
pub mod TreeParts
pub mod TriLemmas
pub mod WordLists
pub mod WordsDecide
pub mod WordsOfMembers
pub mod WordsOfSymbols
pub mod WordsTell
