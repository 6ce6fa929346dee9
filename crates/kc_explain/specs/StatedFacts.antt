-- For proofs: Facts about the defaults and ranges of an entry, line by line.
use Rattle.std.specs.Prelude.{◌&&◌, Bool, List, Option, Some, false, is_some, not, option_map, ℕ}
use Rattle.std.specs.List.{filter_map}
use Rattle.std.specs.Option.{option_and_then}
use Rattle.kc_language.specs.Expressions.{Form}
use Rattle.kc_language.specs.Statements.{Located, Numbered}
use Rattle.kc_language.specs.Symbols.{Bounds, StatedDefault, range_in, stated_default}
use Rattle.kc_language.specs.Texts.{Solution}
use Rattle.kc_language.specs.Values.{is_n}
use Rattle.kc_language.specs.declared.expressions.{SymId.{SymId}, SymbolType.{SymbolType}, Tri.{Tri}}
use Rattle.kc_solve.specs.Answers.{prompts_condition}
use Rattle.kc_tree.specs.Layouts.{member_named}
use Rattle.kc_tree.specs.declared.layout.Layout.{Layout}
use Rattle.kc_tree.specs.declared.rows.EntryId.{EntryId}
use Rattle.kc_explain.specs.FactViews.{DefaultIs, FactView, MemberDefaultIs, MemberIs, RangeIs, bounds_by, given_by_default}
use Rattle.kc_explain.specs.LineViews.{at_entry, lines_of, own_of}
use Rattle.kc_explain.specs.PartViews.{Said, parts_value, value_under}
use Rattle.kc_explain.specs.PartsOfExplanations.{dependency_parts}
use Rattle.kc_explain.specs.declared.stated.Stated.{Stated}
use Rattle.kc_explain.specs.declared.stated.Stated.TheVariants as stated

-- whether it is the fact about a default, range or member that counts
abbrev pub counts : FactView → Bool
counts fact = elim fact [
  | DefaultIs kind d t given ↦ is_some given
  | RangeIs kind r t bounds ↦ is_some bounds
  | MemberIs m t ↦ not (is_n t)
  | MemberDefaultIs d t u ↦ not (is_n t) && not (is_n u)
  | _ ↦ false
]

module _ (solution : Solution) where
  -- a default, a range and a default of a choice, given the value of the line
  abbrev pub default_by : SymbolType → Said StatedDefault → Tri → FactView
  default_by kind d t = DefaultIs kind d t (given_by_default solution (not (is_n t)) kind d.what)

  abbrev pub range_by : SymbolType → Said (Bounds × Option Form) → Tri → FactView
  range_by kind r t = RangeIs kind r t (bounds_by solution (not (is_n t)) kind (r.what).0)

  abbrev pub member_by : Said (SymId × Option Form) → Tri → FactView
  member_by d t = MemberDefaultIs d t (prompts_condition solution (d.what).0)

  -- the fact about a line that `read` accepts, given the value of what its entry depends on
  abbrev pub line_by : {X : Type 0} → (X → Option Form) → (Said X → Tri → FactView) → (Numbered → Option X) → Tri → Located Numbered → Option FactView
  line_by own make read t l = option_map (λ x. make (record { line = Some l; what = x }) (value_under solution t (own x))) (read l.statement)

  abbrev pub default_told : SymbolType → Tri → Located Numbered → Option FactView
  default_told kind t l = line_by (λ x. x.when) (default_by kind) stated_default t l

  abbrev pub range_told : SymbolType → Tri → Located Numbered → Option FactView
  range_told kind t l = line_by (λ x. x.1) (range_by kind) range_in t l

  abbrev pub member_told : SymId → Tri → Located Numbered → Option FactView
  member_told m t l = line_by (λ x. x.1) member_by (λ s. option_map (λ d. (m, d.when)) (stated_default s)) t l

module _ (l : Layout) (solution : Solution) where
  abbrev pub choice_told : ℕ → Tri → Located Numbered → Option FactView
  choice_told k t line = option_and_then (λ m. member_told solution m t line) (member_named l k line.statement)

  abbrev pub line_told : Stated → Tri → Located Numbered → Option FactView
  line_told (stated.Defaults kind) t line = default_told solution kind t line
  line_told (stated.Ranges kind) t line = range_told solution kind t line
  line_told (stated.Members k) t line = choice_told k.0 t line

  -- those of an entry
  abbrev pub entry_told : Stated → EntryId → List FactView
  entry_told s e = filter_map (line_told s (parts_value solution (at_entry l (dependency_parts (lines_of l)) e))) (own_of l e.0)
