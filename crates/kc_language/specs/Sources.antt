-- Trusted: 13. Sources: where a value comes from. Our own.
use Rattle.std.specs.Prelude.{List, None, Option, Some, false, if◌then◌else◌, is_some, true, ℕ, ◌&&◌}
use Rattle.kc_language.specs.{ConfigFile.{place_at}, Expressions.{SymbolValue}, Symbols.{ChoiceFacts, SymbolFacts, TreeFacts, is_symbol_of}, Texts.{Solution, known}, Values.{GivenTruth, GivenValue, Member, above, active_range, choice_at, default_text as value_default, default_value, facts, first_met, if_within_range, implied_value, is_n, is_visible, is_within_range, mode_of, selected, selected_to, upgraded, user_or, user_place, visibility, visible_text}, declared.{sources.Source.{Source}, expressions.{SymId.{SymId}, SymbolType.{SymbolType, TheVariants.{Bool as IsBool, Str, Tristate, Undefined}}}}}

module _ (tree : TreeFacts) (known : SymId → SymbolValue) where
  -- The default that applied, or none. It may be moved into the range. A bool or tristate may be selected above the user's value, or implied above
  -- its default. Where m counts as y, a default that is m is not implied to y.
  abbrev pub default_source : SymbolFacts → Source
  default_source f = let default = first_met tree known f.defaults in
      if is_some default then (if is_within_range f.symbol_type (active_range tree known f) (value_default known default)
      then Source.Default else Source.MovedDefault) else Source.NoDefault

  abbrev pub truth_source : SymbolFacts → Option GivenValue → Source
  truth_source f user =
      if above (selected_to tree known f) (upgraded tree known f.symbol_type (user_or user (visibility tree known f) (implied_value tree known f))) then Source.Selected
      else if is_visible tree known f && elim user [ Some (GivenTruth u) ↦ true | _ ↦ false ] then Source.User
      else if above (upgraded tree known f.symbol_type (implied_value tree known f))
      (upgraded tree known f.symbol_type (default_value tree known (first_met tree known f.defaults))) then Source.Implied
      else default_source f

  abbrev pub text_source : SymbolFacts → Option (List ℕ) → Source
  text_source f used = if is_some used then Source.User else default_source f

  abbrev pub source_by_type : SymbolFacts → SymbolType → Option GivenValue → Source
  source_by_type f kind user = elim kind [
    | Undefined ↦ Source.Untyped
    | IsBool ↦ truth_source f user
    | Tristate ↦ truth_source f user
    | Str ↦ text_source f (visible_text user (visibility tree known f))
    | _ ↦ text_source f (if_within_range f.symbol_type (active_range tree known f) (visible_text user (visibility tree known f)))
  ]

  -- A member: the choice's mode is n, or the user chose the member that is selected, or a default or the first visible member is selected.
  abbrev pub member_source : Option ChoiceFacts → Option GivenValue → Source
  member_source c user =
      if is_n (mode_of tree known c) then Source.ChoiceOff
      else if elim user [ Some (Member m) ↦ is_symbol_of m (selected tree known c (Some (Member m))) | _ ↦ false ] then Source.UserMember else Source.DefaultMember

  abbrev pub source_by : Option SymbolFacts → Option GivenValue → Source
  source_by o user = elim o [
    | None ↦ Source.Untyped
    | Some f ↦ elim f.choice [ None ↦ source_by_type f f.symbol_type user | Some k ↦ member_source (choice_at tree k) user ]
  ]

abbrev pub source : Solution → SymId → Source
source solution s = source_by solution.tree (known solution) (facts solution.tree s) (place_at solution.places (user_place solution.tree s.0))
