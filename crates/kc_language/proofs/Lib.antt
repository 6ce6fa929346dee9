-- Worked examples, one file for each chapter of the language. Each is a theorem that the checker computes from the definitions alone.
mod ConfigFileExamples
pub mod ExampleTools
mod ExpansionExamples
pub mod ExpressionTexts
mod ExpressionsExamples
pub mod FewestParentheses
mod LinesExamples
mod NeedsExamples
mod StatementsExamples
mod SymbolsExamples
mod TextExamples
mod TextsExamples
mod TokensExamples
pub mod ValuesExamples
