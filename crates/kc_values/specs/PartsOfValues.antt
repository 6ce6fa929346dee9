-- Trusted: Names for parts of the definitions of Values.
use Rattle.std.specs.{List.find, Option.{is_some, option_or}, Prelude.{Bool, List, None, Option, Some, false, if◌then◌else◌, nat_lt, not, option_map, unwrap_or, ℕ, ◌&&◌, ◌||◌}}
use Rattle.kc_language.specs.{Expressions.{SymbolValue, Truth, greater, lesser, text}, Symbols.{Bounds, ChoiceFacts, Condition, Guarded, SymbolFacts, TreeFacts, is_symbol_of}, Values.{ChoicePlace, GivenValue, Member, SymbolPlace, UserPlace, and_value, by_type, changes_on_reread_truth, choice_at, condition, conditions, default_text, direct, first_met, given_of, implied_to, is_n, is_visible, mode_of, name_count, number_or_zero, same_given, selected, visibility, visible, visible_member, visible_text, written_by_type}, declared.{expressions.{SymId.SymId, SymbolType.SymbolType, Tri.{TheVariants.{N, Y}, Tri}}, values.Interval.Interval}}

abbrev pub is_mentioned : TreeFacts → SymId → Bool
is_mentioned tree s = nat_lt s.0 (name_count tree)

abbrev pub what_of : Option (Guarded SymId) → Option SymId
what_of None = None
what_of (Some g) = Some g.what

-- An `imply` raises the default, at most to the direct dependency (the order is our own).
abbrev pub implied : Tri → Tri → Tri → Tri
implied d implied_to direct = if is_n implied_to then d else lesser (greater d implied_to) direct

-- For known symbol values alone.
module _ (known : SymId → SymbolValue) where
  -- the bounds of a range as numbers
  abbrev pub interval : SymbolType → Option (Guarded Bounds) → Option Interval
  interval symbol_type None = None
  interval symbol_type (Some r) = Some (record { low = number_or_zero symbol_type (text known r.what.low); high = number_or_zero symbol_type (text known r.what.high) })

-- For a tree and the known values of its symbols.
module _ (tree : TreeFacts) (known : SymId → SymbolValue) where
  abbrev pub prompt_value : Option Condition → Tri
  prompt_value None = N
  prompt_value (Some c) = and_value tree known c.conjuncts

  abbrev pub mode_value : Option ℕ → Tri
  mode_value None = Y
  mode_value (Some c) = mode_of tree known (choice_at tree c)

  abbrev pub visible_facts : Option SymbolFacts → Bool
  visible_facts None = false
  visible_facts (Some f) = not (is_n (conditions tree known f.prompts))

  -- the first default whose condition is not n and that names a visible member
  abbrev pub first_default : ChoiceFacts → List (Guarded SymId) → Option SymId
  first_default c gs = what_of (find (λ g. not (is_n (condition tree known g.when)) && visible_member tree known c g.what) gs)

  abbrev pub first_visible : List SymId → Option SymId
  first_visible ms = find (visible tree known) ms

  -- the user's member if it is visible; otherwise the first default that names a visible member, otherwise the first visible member
  abbrev pub chosen_member : ChoiceFacts → Option GivenValue → Option SymId
  chosen_member c user = elim user [ Some (Member m) ↦ if visible_member tree known c m then Some m else None | _ ↦ None ]

  abbrev pub unselected : ChoiceFacts → Option SymId
  unselected c = option_or
      (option_map (λ g. g.what) (find (λ g. not (is_n (condition tree known g.when)) && visible_member tree known c g.what) c.defaults))
      (find (visible tree known) c.members)

  -- String: the user's text, otherwise the default's, otherwise empty (kconfiglib's `str_value`).
  abbrev pub text_equation : SymbolFacts → Option GivenValue → List ℕ
  text_equation f user = unwrap_or (visible_text user (visibility tree known f)) (default_text known (first_met tree known f.defaults))

  abbrev pub by_choice : SymId → SymbolFacts → Option ℕ → Option GivenValue → SymbolValue
  by_choice s f (Some c) user = Truth (if is_symbol_of s (selected tree known (choice_at tree c) user) then Y else N)
  by_choice s f None user = by_type tree known s f f.symbol_type user

  -- A member is y if it is selected (so it is visible), otherwise n. Its own defaults have no effect.
  abbrev pub member_equation : SymId → ℕ → Option GivenValue → Tri
  member_equation s c user = if is_symbol_of s (selected tree known (choice_at tree c) user) then Y else N

-- For the known values of the symbols.
module _ (tree : TreeFacts) (known : SymId → SymbolValue) where
  -- a string, int or hex: it is visible, or the condition of a default is not n
  abbrev pub written_text : SymbolFacts → Bool
  written_text f = is_visible tree known f || is_some (first_met tree known f.defaults)

  -- a member is written if it is visible
  abbrev pub written_by_choice : SymbolFacts → Option ℕ → Bool
  written_by_choice f (Some c) = is_visible tree known f
  written_by_choice f None = written_by_type tree known f f.symbol_type

  abbrev pub written_facts : Option SymbolFacts → Bool
  written_facts None = false
  written_facts (Some f) = written_by_choice f f.choice

  abbrev pub changes_on_reread_by : SymbolFacts → Option ℕ → Tri → Bool
  changes_on_reread_by f (Some c) t = false
  changes_on_reread_by f None t = changes_on_reread_truth tree known f t

abbrev pub user_place_by : ℕ → Option ℕ → UserPlace
user_place_by i None = SymbolPlace i
user_place_by i (Some c) = ChoicePlace c

abbrev pub user_place_of : ℕ → Option SymbolFacts → UserPlace
user_place_of i None = SymbolPlace i
user_place_of i (Some f) = user_place_by i f.choice

-- two values of one symbol are the same
abbrev pub same_value : SymbolValue → SymbolValue → Bool
same_value a b = same_given (given_of a) (given_of b)
