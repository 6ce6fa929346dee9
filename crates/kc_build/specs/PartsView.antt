-- For proofs: The parts of a tree, as contracts see them.
use Rattle.std.specs.Prelude.{Err, List, Ok, Result, ℕ}
use Rattle.kc_language.specs.{Expansion.Refused, Symbols.TreeFacts}
use Rattle.kc_read.specs.{RefusalView.refusal_view, declared.refusal.Refusal.Refusal}
use Rattle.kc_tree.specs.{TreeView.{IsNamed, tree_of}, declared.layout.TreeParts.TreeParts}

abbrev pub parts_view : List (List ℕ) → Result TreeParts Refusal → Result TreeFacts Refused
parts_view names (Err r) = Err (refusal_view r)
parts_view names (Ok p) = Ok (tree_of names p)

-- if nothing is refused, the layout has these names
abbrev pub AreNamed : List (List ℕ) → Result TreeParts Refusal → Type 0
AreNamed names (Err r) = Unit {0}
AreNamed names (Ok p) = IsNamed names p.layout
