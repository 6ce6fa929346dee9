-- For proofs: Facts about the lines that select or imply a symbol, line by line.
use Rattle.std.specs.Prelude.{◌≡◌, ◌∷◌, Bool, List, Option, [], if◌then◌else◌, not, ℕ}
use Rattle.std.specs.List.{flat_map}
use Rattle.kc_language.specs.Expressions.{lesser, truth_of_value}
use Rattle.kc_language.specs.Symbols.{listed}
use Rattle.kc_language.specs.Texts.{known}
use Rattle.kc_language.specs.Values.{is_n}
use Rattle.kc_language.specs.declared.expressions.{Tri.{Tri}}
use Rattle.kc_language.specs.declared.symbols.SelectOrImply.{SelectOrImply}
use Rattle.kc_explain.specs.FactLists.{depends}
use Rattle.kc_explain.specs.FactViews.{FactView, RaisedBy}
use Rattle.kc_explain.specs.LineViews.{Target, lines_of}
use Rattle.kc_explain.specs.PartViews.{parts_value, value_under}
use Rattle.kc_explain.specs.PartsOfExplanations.{dependency_parts}
use Rattle.kc_explain.specs.declared.teller.Teller.{Teller}
use Rattle.kc_explain.specs.declared.raises.EntryValue.{EntryValue}

module _ (r : Teller) where
  -- the value of what an entry depends on; the same by the index of the entry
  abbrev pub IsValueOf : EntryValue → Type 0
  IsValueOf v = v.value ≡ parts_value r.solved.now (depends r v.entry)

  abbrev pub depended : Option ℕ → Tri
  depended o = parts_value r.solved.now (flat_map (dependency_parts (lines_of r.layout.now)) (listed o))

  -- the value of a line's symbol, and up to which it raises, also given that value
  abbrev pub by_value : Target → Tri
  by_value t = truth_of_value (known r.solved.now t.by)

  abbrev pub raised_to : Tri → Target → Tri
  raised_to by t = lesser by (value_under r.solved.now (depended t.entry) t.when)

  abbrev pub value_of : Target → Tri
  value_of t = raised_to (by_value t) t

  abbrev pub raises : Target → Bool
  raises t = not (is_n (value_of t))

  -- the fact about a line that raises
  abbrev pub raised_fact : SelectOrImply → Target → FactView
  raised_fact word t = RaisedBy word t.by (record { line = t.line; what = t.when }) (by_value t) (value_of t)

  abbrev pub raised_told : SelectOrImply → Target → List FactView
  raised_told word t = if raises t then raised_fact word t ∷ [] else []

  -- a line that does not raise; those of several lines
  abbrev pub not_raised : Target → List Target
  not_raised t = if raises t then [] else t ∷ []

  abbrev pub all_raised : SelectOrImply → List Target → List FactView
  all_raised word ts = flat_map (raised_told word) ts

  abbrev pub not_raising : List Target → List Target
  not_raising ts = flat_map not_raised ts
