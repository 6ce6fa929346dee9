-- Trusted: Where a value comes from, under the values of a table, read from its rows.
use Rattle.std.specs.Prelude.{Bool, List, Option, Some, false, if◌then◌else◌, true, ℕ, ◌&&◌}
use Rattle.kc_language.specs.{Expressions.SymbolValue, Symbols.{SymbolFacts, TreeFacts, is_symbol_of}, Values.{GivenTruth, GivenValue, Member, above}, declared.{expressions.SymId.SymId, sources.Source.Source}}
use Rattle.kc_language.specs.Sources as source
use Rattle.kc_language.specs.Values as lookup
use Rattle.kc_tree.specs.declared.rows.Symbol.{Symbol}
use Rattle.kc_values.specs.AtTable as at
use Rattle.kc_values.specs.{TableFacts.{facts_in, known_at}, declared.table.Table.Table}

-- whether the user gave a truth value and the symbol is visible; the source of a bool or tristate without that value; and with it, if no `select`
-- raises it
module _ (tree : TreeFacts) (known : SymId → SymbolValue) where
  abbrev pub is_truth_used_of : SymbolFacts → Option GivenValue → Bool
  is_truth_used_of f user = lookup.is_visible tree known f && elim user [ Some (GivenTruth u) ↦ true | _ ↦ false ]

  abbrev pub implied_source_of : SymbolFacts → Source
  implied_source_of f =
      if above (lookup.upgraded tree known f.symbol_type (lookup.implied_value tree known f))
      (lookup.upgraded tree known f.symbol_type (lookup.default_value tree known (lookup.first_met tree known f.defaults))) then Source.Implied
      else source.default_source tree known f

  abbrev pub unselected_source_of : SymbolFacts → Option GivenValue → Source
  unselected_source_of f user = if is_truth_used_of f user then Source.User else implied_source_of f

module _ (t : Table) where
  -- the default that applied; the source of a bool or tristate without a `select`, and with it; the source of a string, int or hex
  abbrev pub default_source : SymId → Symbol → Source
  default_source id s = source.default_source t.tree.now (known_at t) (facts_in t id s)

  abbrev pub is_truth_used : SymId → Symbol → Option GivenValue → Bool
  is_truth_used id s given = is_truth_used_of t.tree.now (known_at t) (facts_in t id s) given

  abbrev pub implied_source : SymId → Symbol → Source
  implied_source id s = implied_source_of t.tree.now (known_at t) (facts_in t id s)

  abbrev pub unselected_source : SymId → Symbol → Option GivenValue → Source
  unselected_source id s given = unselected_source_of t.tree.now (known_at t) (facts_in t id s) given

  abbrev pub truth_source : SymId → Symbol → Option GivenValue → Source
  truth_source id s given = source.truth_source t.tree.now (known_at t) (facts_in t id s) given

  abbrev pub text_source : SymId → Symbol → Option (List ℕ) → Source
  text_source id s used = source.text_source t.tree.now (known_at t) (facts_in t id s) used

  abbrev pub number_source : SymId → Symbol → Option GivenValue → Source
  number_source id s given = text_source id s (lookup.if_within_range s.symbol_type (at.active_range t id s) (lookup.visible_text given (at.visibility t id s)))

  -- the source of a symbol outside a choice
  abbrev pub own_source : SymId → Symbol → Option GivenValue → Source
  own_source id s given = source.source_by_type t.tree.now (known_at t) (facts_in t id s) s.symbol_type given

  -- whether the choice selects the user's member; the source of a member
  abbrev pub is_of_user : ℕ → Option GivenValue → Bool
  is_of_user c user = elim user [ Some (Member m) ↦ is_symbol_of m (at.selected t c (Some (Member m))) | _ ↦ false ]

  abbrev pub member_source : ℕ → Option GivenValue → Source
  member_source c given = source.member_source t.tree.now (known_at t) (lookup.choice_at t.tree.now c) given
