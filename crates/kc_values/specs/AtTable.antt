-- Trusted: What the equations give under the values of a table, read from the table's rows.
use Rattle.std.specs.{List.filter_map, Option.option_map_or, Prelude.{Bool, List, None, Option, Some, false, map, not, slice_get, ℕ, ◌&&◌}}
use Rattle.kc_language.specs.{Expressions.{Form, SymbolValue, same_symbol}, Statements.{ChoiceLine, CommentLine, MenuLine, Numbered}, Symbols.{Bounds, ChoiceFacts, Condition, Guarded, SymbolFacts, Warning, range_in, stated_default}, Values.GivenValue, declared.{expressions.{SymId.SymId, SymbolType.SymbolType, Tri.{TheVariants.{N, Y}, Tri}}, values.Interval.Interval}}
use Rattle.kc_tree.specs.{Layouts.{asked_by, default_view, range_view, top}, LineParts.range_said, declared.rows.{Choice.Choice, Symbol.Symbol}}
use Rattle.kc_entries.specs.declared.statement.SymbolRange.{SymbolRange}
use Rattle.kc_tree.specs.Layouts as layout
use Rattle.kc_values.specs.Computed as computed
use Rattle.kc_language.specs.Values as lookup
use Rattle.kc_values.specs.{PartsOfValues.{by_choice, text_equation as lookup_text_equation, unselected as lookup_unselected}, TableFacts.{facts_in, known_at}, declared.table.Table.Table}
use Rattle.kc_values.specs.PartsOfValues as value_parts
use Rattle.kc_language.specs.Texts as warning
use Rattle.kc_values.specs.PartsOfTexts as warning_parts

module _ (t : Table) where
  -- the facts in the row of the choice with a number
  abbrev pub choice_in : ℕ → Choice → ChoiceFacts
  choice_in k c = layout.choice_facts t.layout.now k c

  -- conditions, and the modes of choices
  abbrev pub when_value : Option Form → Tri
  when_value form = computed.when_value t.tree.now (known_at t) form

  abbrev pub and_value : List Form → Tri
  and_value conjuncts = lookup.and_value t.tree.now (known_at t) conjuncts

  abbrev pub prompt_value : ℕ → Choice → Tri
  prompt_value k c = value_parts.prompt_value t.tree.now (known_at t) (choice_in k c).prompt

  abbrev pub mode_of : ℕ → Tri
  mode_of c = lookup.mode_of t.tree.now (known_at t) (lookup.choice_at t.tree.now c)

  -- the mode of the choice that an entry begins; n of another entry
  abbrev pub mode_at : ℕ → Tri
  mode_at at = option_map_or mode_of (layout.choice_at t.layout.now at) N

  -- what an entry with this first line and these attributes asks of what stands in it: a choice its mode
  abbrev pub asked_value : ℕ → Numbered → List Numbered → Tri
  asked_value at ChoiceLine own = mode_at at
  asked_value at head own = and_value (asked_by (Some head) own)

  abbrev pub condition : Condition → Tri
  condition c = lookup.condition t.tree.now (known_at t) c

  -- what an entry asks for with all around it, by its number as it is stored
  abbrev pub context : ℕ → Tri
  context at = condition (layout.condition_at t.layout.now at)

  -- what a menu and the menus around it ask of what is visible, by the number of the menu as it is stored
  abbrev pub visible_context : ℕ → Tri
  visible_context v = and_value (layout.visible_at t.layout.now v)

  -- what the choice with a number depends on itself; n without such a choice
  abbrev pub choice_dependency : ℕ → Tri
  choice_dependency k = computed.choice_dependency t.tree.now t.layout.now (known_at t) k

  -- what an entry depends on itself: a choice unlike its members
  abbrev pub dependency : ℕ → Tri
  dependency at = elim (layout.choice_at t.layout.now at) [ Some k ↦ choice_dependency k | None ↦ context (layout.place_of t.layout.now at).context.0 ]

  -- when the title of an entry with this first line is shown
  abbrev pub title_value : ℕ → Option Numbered → Tri
  title_value at head = elim head [
    | Some (MenuLine x) ↦ condition (layout.title_condition t.layout.now at)
    | Some (CommentLine x) ↦ context (layout.place_of t.layout.now at).context.0
    | _ ↦ Y
  ]

  abbrev pub conditions : List Condition → Tri
  conditions cs = lookup.conditions t.tree.now (known_at t) cs

  abbrev pub first_met : {X : Type 0} → List (Guarded X) → Option (Guarded X)
  first_met gs = lookup.first_met t.tree.now (known_at t) gs

  -- the first default and the first range of an entry whose condition is not n, under what the entry depends on
  abbrev pub default_at : ℕ → Condition → Option (Guarded Form)
  default_at at dependency = first_met (map (default_view dependency) (filter_map stated_default (layout.said_at t.layout.now at)))

  abbrev pub range_at : ℕ → Condition → Option (Guarded Bounds)
  range_at at dependency = first_met (map (range_view dependency) (filter_map range_in (layout.said_at t.layout.now at)))

  -- types
  abbrev pub is_tristate : SymbolType → Bool
  is_tristate symbol_type = lookup.is_tristate t.tree.now (known_at t) symbol_type

  abbrev pub upgraded : SymbolType → Tri → Tri
  upgraded symbol_type x = lookup.upgraded t.tree.now (known_at t) symbol_type x

  -- what a symbol's own lines give
  abbrev pub visibility : SymId → Symbol → Tri
  visibility id s = lookup.visibility t.tree.now (known_at t) (facts_in t id s)

  abbrev pub direct : SymId → Symbol → Tri
  direct id s = lookup.direct t.tree.now (known_at t) (facts_in t id s)

  abbrev pub met_default : SymId → Symbol → Option (Guarded Form)
  met_default id s = first_met (facts_in t id s).defaults

  abbrev pub default_value : SymId → Symbol → Tri
  default_value id s = lookup.default_value t.tree.now (known_at t) (met_default id s)

  abbrev pub met_text : SymId → Symbol → Option (List ℕ)
  met_text id s = warning_parts.met_text (known_at t) (met_default id s)

  abbrev pub default_text : SymId → Symbol → List ℕ
  default_text id s = lookup.default_text (known_at t) (met_default id s)

  abbrev pub interval : SymbolType → SymbolRange → Option Interval
  interval symbol_type r = value_parts.interval (known_at t) symbol_type (Some (range_view top (range_said r)))

  abbrev pub active_range : SymId → Symbol → Option Interval
  active_range id s = lookup.active_range t.tree.now (known_at t) (facts_in t id s)

  -- what the `select` and `imply` lines of a symbol give, together with its own lines
  abbrev pub selector_values : List (Guarded SymId) → Tri
  selector_values gs = lookup.selector_values t.tree.now (known_at t) gs

  abbrev pub selected_to : SymId → Symbol → Tri
  selected_to id s = lookup.selected_to t.tree.now (known_at t) (facts_in t id s)

  abbrev pub implied_to : SymId → Symbol → Tri
  implied_to id s = lookup.implied_to t.tree.now (known_at t) (facts_in t id s)

  abbrev pub implied_value : SymId → Symbol → Tri
  implied_value id s = lookup.implied_value t.tree.now (known_at t) (facts_in t id s)

  -- the equations
  abbrev pub truth_equation : SymId → Symbol → Option GivenValue → Tri
  truth_equation id s given = lookup.truth_equation t.tree.now (known_at t) (facts_in t id s) given

  abbrev pub text_equation : SymId → Symbol → Option GivenValue → List ℕ
  text_equation id s given = lookup_text_equation t.tree.now (known_at t) (facts_in t id s) given

  abbrev pub number_equation : SymId → Symbol → Option GivenValue → List ℕ
  number_equation id s given = lookup.number_equation t.tree.now (known_at t) (facts_in t id s) given

  abbrev pub member_equation : SymId → ℕ → Option GivenValue → Tri
  member_equation id c given = value_parts.member_equation t.tree.now (known_at t) id c given

  abbrev pub equation : SymId → Symbol → Option GivenValue → SymbolValue
  equation id s given = by_choice t.tree.now (known_at t) id (facts_in t id s) (facts_in t id s).choice given

  -- the selection of a choice: by its row, and by its number
  abbrev pub visible : SymId → Bool
  visible id = lookup.visible t.tree.now (known_at t) id

  abbrev pub visible_member : ℕ → SymId → Bool
  visible_member k id = layout.is_member t.layout.now k id && visible id

  abbrev pub first_default : ℕ → Choice → Option SymId
  first_default k c = value_parts.first_default t.tree.now (known_at t) (choice_in k c) (choice_in k c).defaults

  abbrev pub first_visible : List SymId → Option SymId
  first_visible members = value_parts.first_visible t.tree.now (known_at t) members

  abbrev pub unselected : ℕ → Choice → Option SymId
  unselected k c = lookup_unselected t.tree.now (known_at t) (choice_in k c)

  abbrev pub selected_by : ℕ → Choice → Option GivenValue → Option SymId
  selected_by k c given = lookup.selected t.tree.now (known_at t) (Some (choice_in k c)) given

  abbrev pub selected : ℕ → Option GivenValue → Option SymId
  selected c given = lookup.selected t.tree.now (known_at t) (lookup.choice_at t.tree.now c) given

  -- whether a symbol is written
  abbrev pub written_truth : SymId → Symbol → Bool
  written_truth id s = lookup.written_truth t.tree.now (known_at t) (facts_in t id s)

  abbrev pub written_text : SymId → Symbol → Bool
  written_text id s = value_parts.written_text t.tree.now (known_at t) (facts_in t id s)

  abbrev pub written_by_type : SymId → Symbol → Bool
  written_by_type id s = lookup.written_by_type t.tree.now (known_at t) (facts_in t id s) s.symbol_type

  abbrev pub is_written : SymId → Symbol → Bool
  is_written id s = value_parts.written_facts t.tree.now (known_at t) (Some (facts_in t id s))

  -- whether an answer would change a symbol, and whether a choice has another visible member
  abbrev pub is_visible : SymId → Symbol → Bool
  is_visible id s = lookup.is_visible t.tree.now (known_at t) (facts_in t id s)

  abbrev pub changes : SymId → Symbol → Tri → Bool
  changes id s answer = lookup.changes t.tree.now (known_at t) id (facts_in t id s) answer

  abbrev pub can_change : SymId → Symbol → Bool
  can_change id s = lookup.can_change t.tree.now (known_at t) id (facts_in t id s) s.symbol_type

  abbrev pub is_other : SymId → SymId → Bool
  is_other selected m = not (same_symbol selected m) && lookup.visible t.tree.now (known_at t) m

  abbrev pub has_other_member : ℕ → Choice → Bool
  has_other_member k c = lookup.has_other t.tree.now (known_at t) (choice_in k c)

  abbrev pub has_other : ℕ → Bool
  has_other c = option_map_or (lookup.has_other t.tree.now (known_at t)) (lookup.choice_at t.tree.now c) false

  -- the warnings of a symbol
  abbrev pub select_warnings : List ℕ → SymId → Symbol → List Warning
  select_warnings name id s = warning.select_warnings t.tree.now (known_at t) name (facts_in t id s)

  abbrev pub range_warnings : List ℕ → SymId → Symbol → Option GivenValue → List Warning
  range_warnings name id s given = warning.range_warnings t.tree.now (known_at t) name (facts_in t id s) given

  abbrev pub warnings_of : SymId → Symbol → Option GivenValue → List Warning
  warnings_of id s given = warning.warnings_of t.tree.now (known_at t) (lookup.name t.tree.now id) (Some (facts_in t id s)) given
