-- For proofs: Facts about a choice, by its row and its entry.
use Rattle.std.specs.Prelude.{◌++◌, ◌∷◌, ◌&&◌, Bool, List, None, Option, Some, [], false, if◌then◌else◌, not, slice_get, ℕ}
use Rattle.std.specs.List.{flat_map, list_any}
use Rattle.std.specs.Option.{option_and_then, option_map_or}
use Rattle.kc_language.specs.ConfigFile.{StreamLocation, UserInput, place_at, plain_line}
use Rattle.kc_language.specs.Statements.{Located, Numbered}
use Rattle.kc_language.specs.Texts.{known}
use Rattle.kc_language.specs.Values.{ChoicePlace, GivenValue, Member, SymbolPlace, choice_at, is_n, is_yes, mode_of}
use Rattle.kc_language.specs.declared.expressions.{SymId.{SymId}, Tri.{Tri}}
use Rattle.kc_outcome.specs.Explanations as rules
use Rattle.kc_solve.specs.Answers.{prompts_condition}
use Rattle.kc_tree.specs.Layouts.{is_member}
use Rattle.kc_tree.specs.declared.layout.Layout.{Layout}
use Rattle.kc_tree.specs.declared.rows.{EntryId.{EntryId}}
use Rattle.kc_explain.specs.FactLists.{depends, parts_told, prompts_at}
use Rattle.kc_explain.specs.FactViews.{FactView, MemberIs, ModeIs, UserGave}
use Rattle.kc_explain.specs.LineViews.{at_entry}
use Rattle.kc_explain.specs.StatedFacts.{counts, entry_told}
use Rattle.kc_explain.specs.declared.teller.Teller.{Teller}
use Rattle.kc_explain.specs.declared.stated.Stated.TheVariants as stated

-- whether a user value is y; the members in the row of a choice
abbrev pub is_yes_given : Option GivenValue → Bool
is_yes_given given = option_map_or is_yes given false

abbrev pub members_in : Layout → ℕ → List SymId
members_in l k = elim (slice_get l.choices.items k) [ None ↦ [] | Some c ↦ c.members.items ]

-- the line that chose a member, if it is the last line of that member
abbrev pub choosing_line : UserInput → Option GivenValue → Option StreamLocation
choosing_line input chosen = elim chosen [
  | Some (Member m) ↦ option_and_then (λ g. if is_yes g then plain_line input input.lines m else None) (place_at input.places (SymbolPlace m.0))
  | _ ↦ None
]

module _ (r : Teller) where
  -- what a member's prompts are worth; whether it is a member that is visible; the members up to the first that is visible
  abbrev pub member_told : SymId → FactView
  member_told m = MemberIs m (prompts_condition r.solved.now m)

  abbrev pub is_shown_member : ℕ → SymId → Bool
  is_shown_member k m = is_member r.layout.now k m && not (is_n (prompts_condition r.solved.now m))

  abbrev pub members_told : List SymId → List FactView
  members_told ms = rules.through counts (flat_map (λ m. member_told m ∷ []) ms)

  -- the choice that an entry begins: its defaults, what it selects with this member of the user, and with that of the input
  abbrev pub stated_told : ℕ → EntryId → List FactView
  stated_told k e = entry_told r.layout.now r.solved.now (stated.Members (record { 0 = k })) e

  abbrev pub preset_told : ℕ → EntryId → List FactView
  preset_told k e = rules.through counts (stated_told k e) ++ (if list_any counts (stated_told k e) then [] else members_told (members_in r.layout.now k))

  abbrev pub selected_told : ℕ → EntryId → Option GivenValue → List FactView
  selected_told k e chosen = elim chosen [
    | Some (Member m) ↦ member_told m ∷ (if is_shown_member k m then [] else preset_told k e)
    | _ ↦ preset_told k e
  ]

  abbrev pub selection_told : ℕ → EntryId → List FactView
  selection_told k e = let chosen = place_at r.input.now.places (ChoicePlace k) in
      UserGave (choosing_line r.input.now chosen) (ChoicePlace k) chosen ∷ selected_told k e chosen

  -- its mode, and all its facts
  abbrev pub mode_told : EntryId → Located Numbered → Tri → List FactView
  mode_told e line mode = ModeIs (Some line) mode ∷ parts_told r.solved.now (depends r e)

  abbrev pub choice_told : ℕ → EntryId → Located Numbered → List FactView
  choice_told k e line = let mode = mode_of r.solved.now.tree (known r.solved.now) (choice_at r.solved.now.tree k) in
      mode_told e line mode ++ at_entry r.layout.now (prompts_at r) e ++ (if is_n mode then [] else selection_told k e)
