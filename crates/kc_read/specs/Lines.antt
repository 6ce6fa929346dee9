-- Trusted: How a line of tokens is read.
use Rattle.std.specs.Prelude.{List, Result, ◌≡◌}
use Rattle.kc_language.specs.{Statements.{Cause, LineContext, Named, ReadsLine}, Tokens.Lexeme}

-- in each context a line has exactly one result, a statement or a cause
abbrev pub OneStatement : Type 0
OneStatement = (c : LineContext) (ts : List Lexeme) → (r : Result Named Cause) × ReadsLine c ts r × ((other : Result Named Cause) → ReadsLine c ts other → r ≡ other)
