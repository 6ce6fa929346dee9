-- The language, in fourteen chapters.
pub mod ConfigFile
pub mod Expansion
pub mod ExpressionTexts
pub mod Expressions
pub mod Files
pub mod Lines
pub mod Needs
pub mod Sources
pub mod Statements
pub mod Symbols
pub mod Text
pub mod Texts
pub mod Tokens
pub mod Values
