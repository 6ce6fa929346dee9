-- Trusted: Laws of the equations of a tree.
use Rattle.std.specs.{List.Contains, Prelude.{Bool, None, Option, Some, false, map, option_map, slice_get, true, ℕ, ◌<◌, ◌↔◌, ◌≡◌, ◌≢◌}}
use Rattle.kc_language.specs.{Expressions.{SymbolValue, symbol}, Needs.{IsAccepted, needs, needs_in}, Symbols.{ChoiceFacts, Condition, TreeFacts}, Texts.has_value, Values.{ChoicePlace, GivenValue, IsOnlySolution, Member, Solves, SymbolPlace, UserPlace, changes_on_reread, choice_at, condition, differs, equations, facts, given_of, is_chosen, is_new, known_from, name_count, rhs, same_given, selected, selection, user_place, visible}, declared.expressions.SymId.SymId}
use Rattle.kc_tree.specs.{Layouts.{IsLayoutOf, facts_of}, declared.layout.Layout.Layout}
use Rattle.kc_entries.specs.WellFormed.{IsWellFormed}
use Rattle.kc_order.specs.{Loop.HoldsNeeding, Minimal.{NothingCanGo, Restores}, Needs.AreWithin, Solution.{HasOneSolution, ReadsNeeds}}
use Rattle.kc_values.specs.{GivenLines.{TellsDiffering, is_listed, listed_place, minimal_line, reread_places}, PartsOfValues.prompt_value}
use Rattle.kc_user.specs.Places.{AllowedPlaces, allowed, members_of}

-- An equation reads only what its symbol needs, for any user values.
abbrev pub EquationsReadNeeds : Type 0
EquationsReadNeeds = (tree : TreeFacts) (user : UserPlace → Option GivenValue) → ReadsNeeds (needs_in (needs tree)) (equations tree user)

-- Each need is the number of a symbol.
abbrev pub NeedsAreSymbols : Type 0
NeedsAreSymbols = (tree : TreeFacts) → AreWithin (needs tree)

-- Each symbol that needs another one is defined.
abbrev pub NeedingAreDefined : Type 0
NeedingAreDefined = (tree : TreeFacts) → IsWellFormed tree → HoldsNeeding (map (λ (s : SymId). s.0) tree.defined) (needs tree)

-- Every accepted tree has one solution, for any user values.
abbrev pub AcceptedHaveOneSolution : Type 0
AcceptedHaveOneSolution =
    (tree : TreeFacts) (user : UserPlace → Option GivenValue) → IsAccepted tree → HasOneSolution (name_count tree) (equations tree user)

-- Any two solutions agree at every symbol.
abbrev pub SolutionsAgree : Type 0
SolutionsAgree =
    (tree : TreeFacts) (user : UserPlace → Option GivenValue) → IsAccepted tree →
    (V : ℕ → SymbolValue) → Solves (name_count tree) (equations tree user) V → IsOnlySolution (name_count tree) (equations tree user) V

-- The line of a symbol that differs gives its value again: the value is a fixed point of that line.
abbrev pub LinesAreFixed : Type 0
LinesAreFixed =
    (tree : TreeFacts) (user : UserPlace → Option GivenValue) (V : ℕ → SymbolValue) (i : ℕ) → i < name_count tree →
    Solves (name_count tree) (equations tree user) V → differs tree user V i ≡ true → V i ≡ rhs tree i (minimal_line tree user V (user_place tree i)) V

-- The lines of the symbols that differ restore exactly the same values.
abbrev pub MinimalRestores : Type 0
MinimalRestores =
    (tree : TreeFacts) (user : UserPlace → Option GivenValue) (V : ℕ → SymbolValue) (keep : UserPlace → Bool) →
    IsAccepted tree → IsWellFormed tree → Solves (name_count tree) (equations tree user) V → TellsDiffering tree user V keep →
    Restores (name_count tree) (user_place tree) (rhs tree) (minimal_line tree user V) V keep

-- If any nonempty set of those lines is left out, the solution is different.
abbrev pub MinimalHasNothingToSpare : Type 0
MinimalHasNothingToSpare =
    (tree : TreeFacts) (user : UserPlace → Option GivenValue) (V : ℕ → SymbolValue) (keep : UserPlace → Bool) →
    IsWellFormed tree → Solves (name_count tree) (equations tree user) V → TellsDiffering tree user V keep →
    NothingCanGo (name_count tree) (user_place tree) (rhs tree) (minimal_line tree user V) V keep

-- `allowed` accepts the value of each symbol that differs.
abbrev pub DifferingAreAllowed : Type 0
DifferingAreAllowed =
    (tree : TreeFacts) (user : UserPlace → Option GivenValue) (V : ℕ → SymbolValue) (i : ℕ) → i < name_count tree →
    IsWellFormed tree → AllowedPlaces tree user → Solves (name_count tree) (equations tree user) V →
    differs tree user V i ≡ true → allowed tree (symbol i) (given_of (V i)) ≡ true

-- With the written values as user values, the solution is the same if and only if no symbol changes on rereading.
abbrev pub IdempotentWhere : Type 0
IdempotentWhere =
    (tree : TreeFacts) (user : UserPlace → Option GivenValue) (V : ℕ → SymbolValue) →
    IsWellFormed tree → AllowedPlaces tree user → Solves (name_count tree) (equations tree user) V →
    Solves (name_count tree) (equations tree (reread_places tree V)) V ↔ ((i : ℕ) → i < name_count tree → changes_on_reread tree V i ≡ false)

-- An answer to the question of a symbol, by its place. A line can give this value, and the symbol's equation then gives another value. For a member:
-- it is visible, no line chose the selection of its choice, and another member as the user value changes the selection.
abbrev pub CanBeAnswered : TreeFacts → (UserPlace → Option GivenValue) → (ℕ → SymbolValue) → ℕ → UserPlace → Type 0
CanBeAnswered tree user V i (SymbolPlace j) =
    (given : GivenValue) × (allowed tree (symbol i) given ≡ true) × (same_given (given_of (rhs tree i (Some given) V)) (given_of (V i)) ≡ false)
CanBeAnswered tree user V i (ChoicePlace c) =
    (visible tree (known_from tree V) (symbol i) ≡ true) × (is_chosen (selection tree user V c) (user (ChoicePlace c)) ≡ false) × (m : SymId) × Contains (members_of (choice_at tree c)) m
    × (selected tree (known_from tree V) (choice_at tree c) (Some (Member m)) ≢ selection tree user V c)

-- A symbol is new if and only if no line gave it a value and its question can be answered.
abbrev pub NewCanBeAnswered : Type 0
NewCanBeAnswered =
    (tree : TreeFacts) (user : UserPlace → Option GivenValue) (V : ℕ → SymbolValue) (i : ℕ) → i < name_count tree →
    Solves (name_count tree) (equations tree user) V →
    is_new tree (known_from tree V) user (symbol i) ≡ true ↔ (user (SymbolPlace i) ≡ None) × CanBeAnswered tree user V i (user_place tree i)

-- If the lines of the list of new symbols are allowed, they keep the values if and only if no new symbol changes on rereading. Afterwards only a
-- symbol without a line is still new.
abbrev pub NewLinesKeep : Type 0
NewLinesKeep =
    (tree : TreeFacts) (user : UserPlace → Option GivenValue) (V : ℕ → SymbolValue) → IsWellFormed tree → AllowedPlaces tree user →
    Solves (name_count tree) (equations tree user) V →
    ((s : SymId) → s.0 < name_count tree → is_listed tree user V s ≡ true → allowed tree s (given_of (V s.0)) ≡ true) →
    (Solves (name_count tree) (equations tree (listed_place tree user V)) V
    ↔ ((s : SymId) → s.0 < name_count tree → is_new tree (known_from tree V) user s ≡ true → changes_on_reread tree V s.0 ≡ false))
    × ((s : SymId) → s.0 < name_count tree → is_new tree (known_from tree V) (listed_place tree user V) s ≡ true →
    (is_new tree (known_from tree V) user s ≡ true) × (has_value (V s.0) ≡ false))

-- Choices don't nest: the prompt of a choice does not depend on the mode of another one. So the mode is y if and only if the prompt is visible.
abbrev pub ModeIsPromptCondition : Type 0
ModeIsPromptCondition =
    (tree : TreeFacts) (known : SymId → SymbolValue) (c : ℕ) (f : ChoiceFacts) (p : Condition) → IsWellFormed tree → choice_at tree c ≡ Some f → f.prompt ≡ Some p →
    prompt_value tree known f.prompt ≡ condition tree known p

-- The facts of a symbol in a tree are those of the symbol's row in any layout of the tree; without a row there are none.
abbrev pub RowsTellFacts : Type 0
RowsTellFacts = (tree : TreeFacts) (l : Layout) (s : SymId) → IsLayoutOf tree l → facts tree s ≡ option_map (facts_of l s.0) (slice_get l.symbols.items s.0)
