-- For proofs: The names of the defined symbols.
use Rattle.std.specs.Prelude.{Contains, length, ◌≤◌}
use Rattle.kc_language.specs.{Symbols.TreeFacts, Text.longest_name, Values.name as name_of, declared.expressions.SymId.SymId}
use Rattle.kc_input.specs.RoundTrip.{IsName}

-- the name of a defined symbol has at least one byte, is not too long, and has only bytes allowed in a name
abbrev pub HasNames : TreeFacts → Type 0
HasNames tree = (s : SymId) → Contains tree.defined s → IsName (name_of tree s) × (length (name_of tree s) ≤ longest_name)
