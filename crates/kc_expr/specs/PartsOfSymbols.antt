-- Trusted: Parts of the definitions of Symbols, with names of their own.
use Rattle.std.specs.{List.list_any, Prelude.{Bool, List, [], if◌then◌else◌, ◌++◌, ◌∷◌}}
use Rattle.kc_language.specs.{Expressions.same_symbol, declared.expressions.SymId.SymId}

-- the symbol is in the list
abbrev pub stands_in : List SymId → SymId → Bool
stands_in ids id = list_any (same_symbol id) ids

-- the list after this symbol is added
abbrev pub added : List SymId → SymId → List SymId
added ids id = if stands_in ids id then ids else ids ++ id ∷ []
