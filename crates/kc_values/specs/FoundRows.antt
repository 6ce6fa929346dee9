-- For proofs: What a search in the rows of a table has found.
use Rattle.std.specs.{Borrow.Bor, Prelude.{None, Option, Some, ◌≡◌}}
use Rattle.kc_language.specs.{Expressions.Form, Symbols.{Bounds, Guarded}, Values.condition, declared.expressions.Tri.Tri}
use Rattle.kc_expr.specs.Form.{form_of, leaf_of}
use Rattle.kc_entries.specs.declared.statement.{SymbolDefault.SymbolDefault, SymbolRange.SymbolRange}
use Rattle.kc_values.specs.{TableFacts.known_at, declared.table.Table.Table}

-- the search found this default, with the value of its condition
abbrev pub IsMetDefault : Table → Option (Guarded Form) → Option (Bor SymbolDefault × Tri) → Type 0
IsMetDefault t None o = o ≡ None
IsMetDefault t (Some g) None = ⊥
IsMetDefault t (Some g) (Some found) = (form_of found.0.now.value.value ≡ g.what) × (found.1 ≡ condition t.tree.now (known_at t) g.when)

-- the search found this range
abbrev pub IsMetRange : Table → Option (Guarded Bounds) → Option (Bor SymbolRange) → Type 0
IsMetRange t None o = o ≡ None
IsMetRange t (Some g) None = ⊥
IsMetRange t (Some g) (Some r) = (leaf_of r.now.low ≡ g.what.low) × (leaf_of r.now.high ≡ g.what.high)
