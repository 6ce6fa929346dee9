-- Trusted: Laws of needs and of equations over them, for any type of values.
use Rattle.std.specs.{List.{Contains, flat_map}, Prelude.{All, Bool, List, Option, length, slice_index, take, true, ℕ, ◌++◌, ◌+◌, ◌-◌, ◌<◌, ◌≡◌, ◌⊎◌}}
use Rattle.kc_order.specs.{Graph.{IsGraph, Nodes, groups_of, needs_of, stands_for}, Loop.{HoldsNeeding, IsPath}, Minimal.{KeepsWhatDiffers, NothingCanGo, Restores, equations}, Needs.{AreAlike, AreWithin, SomeUnordered}, Order.Orders, PartsOfNeeds.AreAccepted as IsAccepted, Solution.{HasOneSolution, IsIteration, IsUpdate, ReadsNeeds}}
use Rattle.kc_language.specs.{Needs.{IsNamedLoop, needs_in, unordered_after}, Values.{IsOnlySolution, Solves}}

-- needs that have an order are accepted
abbrev pub OrderedAreAccepted : Type 0
OrderedAreAccepted = (needs : List (List ℕ)) (symbols : List ℕ) → Orders needs symbols → IsAccepted needs

-- if a path along needs comes back to its first symbol, that symbol is unordered
abbrev pub CyclesAreUnordered : Type 0
CyclesAreUnordered =
    (needs : List (List ℕ)) (way : List ℕ) → 1 < length way → IsPath (needs_in needs) way →
    slice_index way (length way - 1) ≡ slice_index way 0 → unordered_after (needs_in needs) (length needs) (slice_index way 0) ≡ true

-- each symbol of the reported loop needs the next one, and the last needs the first
abbrev pub NamedLoopIsClosed : Type 0
NamedLoopIsClosed =
    (sequence : List ℕ) (needs : List (List ℕ)) (loop : List ℕ) → IsNamedLoop sequence (length needs) (needs_in needs) loop →
    IsPath (needs_in needs) (loop ++ take 1 loop)

-- each symbol of the reported loop is one of the symbols
abbrev pub NamedLoopIsWithin : Type 0
NamedLoopIsWithin =
    (sequence : List ℕ) (needs : List (List ℕ)) (loop : List ℕ) → IsNamedLoop sequence (length needs) (needs_in needs) loop →
    All (λ s. s < length needs) loop

-- the reported loop is unique for given needs and a given sequence
abbrev pub OneNamedLoop : Type 0
OneNamedLoop =
    (sequence : List ℕ) (needs : List (List ℕ)) (loop other : List ℕ) →
    IsNamedLoop sequence (length needs) (needs_in needs) loop → IsNamedLoop sequence (length needs) (needs_in needs) other → loop ≡ other

-- needs are accepted, or some symbol is unordered
abbrev pub AcceptedOrUnordered : Type 0
AcceptedOrUnordered = (needs : List (List ℕ)) → IsAccepted needs ⊎ SomeUnordered (length needs) (needs_in needs)

-- if some symbol is unordered, a loop is reported, provided that the sequence has each symbol that needs some symbol
abbrev pub UnorderedHaveALoop : Type 0
UnorderedHaveALoop =
    (sequence : List ℕ) (needs : List (List ℕ)) → HoldsNeeding sequence needs → AreWithin needs → SomeUnordered (length needs) (needs_in needs) →
    (loop : List ℕ) × IsNamedLoop sequence (length needs) (needs_in needs) loop

-- if a loop is reported, some symbol is unordered
abbrev pub NamedAreUnordered : Type 0
NamedAreUnordered =
    (sequence : List ℕ) (needs : List (List ℕ)) (loop : List ℕ) → IsNamedLoop sequence (length needs) (needs_in needs) loop → SomeUnordered (length needs) (needs_in needs)

-- acceptance, and the loop that is reported for a sequence, are the same for needs that are alike
abbrev pub AlikeAreAccepted : Type 0
AlikeAreAccepted = (needs other : List (List ℕ)) → AreAlike needs other → IsAccepted needs → IsAccepted other

abbrev pub AlikeHaveTheLoop : Type 0
AlikeHaveTheLoop =
    (sequence : List ℕ) (needs other : List (List ℕ)) (loop : List ℕ) → AreAlike needs other →
    IsNamedLoop sequence (length needs) (needs_in needs) loop → IsNamedLoop sequence (length other) (needs_in other) loop

-- the symbols of a graph need only symbols
abbrev pub GraphNeedsAreWithin : Type 0
GraphNeedsAreWithin = (g : Nodes) → IsGraph g → AreWithin (needs_of g)

-- in an order of a graph's nodes, each symbol that a node needs comes before the node, also through groups
abbrev pub SymbolsStandFirst : Type 0
SymbolsStandFirst =
    (g : Nodes) (nodes : List ℕ) → IsGraph g → Orders g.rows nodes →
    (k v : ℕ) → k < length nodes → Contains (flat_map (stands_for g.symbols (groups_of g)) (needs_in g.rows (slice_index nodes k))) v → Contains (take k nodes) v

-- equations that read only what is needed have one solution, if no symbol is unordered
abbrev pub AcceptedHaveOneSolution : Type 0 → Type 0
AcceptedHaveOneSolution A =
    (needs : List (List ℕ)) (rhs : ℕ → (ℕ → A) → A) → AreWithin needs → IsAccepted needs → ReadsNeeds (needs_in needs) rhs →
    A → HasOneSolution (length needs) rhs

-- and every solution is that one
abbrev pub SolutionsAgree : Type 0 → Type 0
SolutionsAgree A =
    (needs : List (List ℕ)) (rhs : ℕ → (ℕ → A) → A) → AreWithin needs → IsAccepted needs → ReadsNeeds (needs_in needs) rhs →
    (V : ℕ → A) → Solves (length needs) rhs V → IsOnlySolution (length needs) rhs V

-- if each equation is computed once, along an order, the result solves the equations, whatever the values were before
abbrev pub ComputingSolves : Type 0 → Type 0
ComputingSolves A =
    (needs : List (List ℕ)) (symbols : List ℕ) (rhs : ℕ → (ℕ → A) → A) → Orders needs symbols → ReadsNeeds (needs_in needs) rhs →
    (values : ℕ → ℕ → A) →
    ((i : ℕ) → i < length symbols → IsUpdate (values i) (values (i + 1)) (slice_index symbols i) (rhs (slice_index symbols i) (values i))) →
    Solves (length needs) rhs (values (length symbols))

-- after as many iterations as there are symbols, the result solves the equations, whatever the values were before
abbrev pub IterationsSolve : Type 0 → Type 0
IterationsSolve A =
    (needs : List (List ℕ)) (rhs : ℕ → (ℕ → A) → A) → AreWithin needs → IsAccepted needs → ReadsNeeds (needs_in needs) rhs →
    (values : ℕ → ℕ → A) → ((k : ℕ) → k < length needs → IsIteration (length needs) rhs (values k) (values (k + 1))) →
    Solves (length needs) rhs (values (length needs))

-- the lines of what differs restore the values
abbrev pub MinimalRestores : Type 0 → Type 0 → Type 0 → Type 0
MinimalRestores A Place G =
    (needs : List (List ℕ)) (place : ℕ → Place) (rhs : ℕ → Option G → (ℕ → A) → A) (lines : Place → Option G) (V : ℕ → A) (keep : Place → Bool) →
    AreWithin needs → IsAccepted needs → ((given : Place → Option G) → ReadsNeeds (needs_in needs) (equations place rhs given)) →
    KeepsWhatDiffers (length needs) place rhs lines V keep → Restores (length needs) place rhs lines V keep

-- and none of them can be left out
abbrev pub MinimalHasNothingToSpare : Type 0 → Type 0 → Type 0 → Type 0
MinimalHasNothingToSpare A Place G =
    (needs : List (List ℕ)) (place : ℕ → Place) (rhs : ℕ → Option G → (ℕ → A) → A) (lines : Place → Option G) (V : ℕ → A) (keep : Place → Bool) →
    AreWithin needs → ((given : Place → Option G) → ReadsNeeds (needs_in needs) (equations place rhs given)) →
    KeepsWhatDiffers (length needs) place rhs lines V keep → NothingCanGo (length needs) place rhs lines V keep
