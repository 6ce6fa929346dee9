-- Trusted: What the symbols of a tree may be, whatever the user gives.
use Rattle.std.specs.Prelude.{List, Option, Some, [], false, length, slice_get, ℕ, ◌<◌, ◌∷◌, ◌≡◌, ◌≢◌, ◌⊎◌}
use Rattle.kc_language.specs.{Expressions.{SymbolValue, TextValue, Truth, truth_of_value}, Symbols.{SymbolFacts, TreeFacts}, Values.{GivenText, GivenValue, Solves, UserPlace, and_value, choice_at, condition, conditions, equations, facts, given_of, known_from, mode_of, name, name_count, same_given, type_in}, declared.expressions.{SymId.SymId, SymbolType.{SymbolType, TheVariants.{Bool as IsBool, Hex, Int, Str, Tristate, Undefined}}, Tri.{TheVariants.N, Tri}}}
use Rattle.kc_tree.specs.Layouts.{condition_at, visible_at}
use Rattle.kc_values.specs.Computed.{choice_dependency}
use Rattle.kc_possible.specs.{Bounds.IsWithin, declared.{bounds.Bounds.Bounds, possible.Possible.Possible}}

-- ---- Inputs
-- V is what the symbols of the tree have under some input: for these user values, whatever they are.
abbrev pub IsUnder : TreeFacts → (UserPlace → Option GivenValue) → (ℕ → SymbolValue) → Type 0
IsUnder tree user V = Solves (name_count tree) (equations tree user) V

-- No input makes the prompts of the symbol visible, and it has one.
pub record IsDead (tree : TreeFacts) (s : SymId) : Type 0 where
  pub own : SymbolFacts
  pub is : facts tree s ≡ Some own
  pub prompted : 0 < length own.prompts
  pub hidden : (user : UserPlace → Option GivenValue) (V : ℕ → SymbolValue) → IsUnder tree user V → conditions tree (known_from tree V) own.prompts ≡ N

-- Some of these symbols, in the same order.
abbrev pub AreSomeOf : List SymId → List SymId → Type 0
AreSomeOf some [] = some ≡ []
AreSomeOf some (s ∷ all) = AreSomeOf some all ⊎ ((rest : List SymId) × (some ≡ s ∷ rest) × AreSomeOf rest all)

-- Under any input the symbol is n, or is no bool or tristate.
abbrev pub IsOff : TreeFacts → SymId → Type 0
IsOff tree s = (user : UserPlace → Option GivenValue) (V : ℕ → SymbolValue) → IsUnder tree user V → truth_of_value (known_from tree V s) ≡ N

-- No input gives the symbol this truth value.
abbrev pub IsImpossible : TreeFacts → SymId → Tri → Type 0
IsImpossible tree s t = (user : UserPlace → Option GivenValue) (V : ℕ → SymbolValue) → IsUnder tree user V → known_from tree V s ≢ Truth t

-- No input gives the symbol this text.
abbrev pub IsTextImpossible : TreeFacts → SymId → List ℕ → Type 0
IsTextImpossible tree s text = (user : UserPlace → Option GivenValue) (V : ℕ → SymbolValue) → IsUnder tree user V → same_given (GivenText text) (given_of (known_from tree V s)) ≡ false

-- ---- Bounds
-- a value of this type: a truth value, a text, or the name of a symbol without a type
abbrev pub IsTyped : SymbolType → List ℕ → SymbolValue → Type 0
IsTyped Undefined called v = v ≡ TextValue Undefined called
IsTyped IsBool called v = (t : Tri) × (v ≡ Truth t)
IsTyped Tristate called v = (t : Tri) × (v ≡ Truth t)
IsTyped Str called v = (text : List ℕ) × (v ≡ TextValue Str text)
IsTyped Int called v = (text : List ℕ) × (v ≡ TextValue Int text)
IsTyped Hex called v = (text : List ℕ) × (v ≡ TextValue Hex text)

abbrev pub AreTyped : TreeFacts → (SymId → SymbolValue) → Type 0
AreTyped tree known = (s : SymId) → IsTyped (type_in (facts tree s)) (name tree s) (known s)

-- each of these values is between the bounds in its place, if there are any
abbrev pub AreWithin : List Bounds → (ℕ → Tri) → Type 0
AreWithin bounds worth = (i : ℕ) (b : Bounds) → slice_get bounds i ≡ Some b → IsWithin b (worth i)

-- The symbols may have these values: each has its type, and they and the conditions that they give are between the bounds.
pub record Allows (p : Possible) (known : SymId → SymbolValue) : Type 0 where
  pub typed : AreTyped p.laid.tree.now known
  pub symbols : AreWithin p.symbols.items (λ i. truth_of_value (known (record { 0 = i })))
  pub contexts : AreWithin p.contexts.items (λ at. condition p.laid.tree.now known (condition_at p.laid.layout.now at))
  pub visibles : AreWithin p.visibles.items (λ v. and_value p.laid.tree.now known (visible_at p.laid.layout.now v))
  pub dependencies : AreWithin p.dependencies.items (choice_dependency p.laid.tree.now p.laid.layout.now known)
  pub modes : AreWithin p.modes.items (λ k. mode_of p.laid.tree.now known (choice_at p.laid.tree.now k))

-- They may have whatever values they have under any input.
abbrev pub IsSound : Possible → Type 0
IsSound p = (user : UserPlace → Option GivenValue) (V : ℕ → SymbolValue) → IsUnder p.laid.tree.now user V → Allows p (known_from p.laid.tree.now V)
