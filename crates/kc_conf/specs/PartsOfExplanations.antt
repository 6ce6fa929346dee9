-- For proofs: Names for parts of the definitions of Explanations.
use Rattle.std.specs.Prelude.{List, [], codes, if◌then◌else◌, ℕ, ◌++◌}
use Rattle.kc_language.specs.ConfigFile.{Notation}
use Rattle.kc_language.specs.Expansion.{Files}
use Rattle.kc_outcome.specs.Explanations.{definition_comments}
use Rattle.kc_language.specs.Statements.{Located, Numbered}
use Rattle.kc_language.specs.Symbols.{TreeFacts}
use Rattle.kc_language.specs.Texts.{SolutionView, symbol_new}
use Rattle.kc_language.specs.declared.expressions.SymId.{SymId}

-- the line of a new symbol, and an empty line
abbrev pub line_and_gap : TreeFacts → Notation → SolutionView → SymId → List ℕ
line_and_gap tree prefix view s = symbol_new tree prefix view s ++ codes "\n"

-- a symbol with its definitions as comments, if it is new
abbrev pub new_with_help : Files → List (Located Numbered) → TreeFacts → Notation → SolutionView → SymId → List ℕ
new_with_help files lines tree prefix view s =
    if view.is_new s then definition_comments files lines s ++ symbol_new tree prefix view s ++ codes "\n" else []
