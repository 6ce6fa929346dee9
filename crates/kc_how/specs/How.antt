-- Trusted: What must be set so that a symbol has a value: a fragment that works and has no line too many, or that no input works.
-- Our own. The rules are `IsFix` and `IsOutOfReach`.
use Rattle.std.specs.{List.{flat_map, list_all, list_any}, Option.option_or, Prelude.{Bool, List, None, Option, Some, [], codes, drop, false, if◌then◌else◌, length, not, take, true, ℕ, ◌&&◌, ◌++◌, ◌+◌, ◌<◌, ◌||◌, ◌∷◌, ◌≡◌, nat_le}}
use Rattle.kc_language.specs.{ConfigFile.{Notation, ReadResult, UserInput, place_at, reading_of, value_by}, Symbols.{TreeFacts, Warning}, Text.{longest_value}, Texts.{IsSolutionFor, Solution, known, read_alone, warnings_of}, Values.{GivenText, GivenValue, SymbolPlace, UserPlace, facts, given_of, known_from, name, same_given}, Expressions.{SymbolValue}, declared.{diagnostics.Warning.TheVariants.{Selected}, expressions.{SymId.SymId, SymbolType.{SymbolType, TheVariants.{Str}}}}}
use Rattle.kc_user.specs.Places.{fits_quoted}
use Rattle.kc_possible.specs.Possible.{IsUnder}

-- A symbol and the value that it shall have.
pub record Goal : Type 0 where
  pub symbol : SymId
  pub value : GivenValue

-- The value that a text asks for, for a symbol of this type: what it gives right of the `=` of a `.config` line. A string may also stand without quotes.
abbrev pub unquoted : SymbolType → List ℕ → Option GivenValue
unquoted kind text = elim kind [ Str ↦ if fits_quoted text then Some (GivenText text) else None | _ ↦ None ]

abbrev pub wanted_value : Bool → SymbolType → List ℕ → Option GivenValue
wanted_value is_raw kind text = option_or (if nat_le (length text) longest_value then value_by is_raw kind text else None) (unquoted kind text)

-- ---- Fragments
-- What the input files give with a fragment of these lines as the last one; and what the fragment gives alone.
abbrev pub fragment_text : List (List ℕ) → List ℕ
fragment_text lines = flat_map (λ line. line ++ codes "\n") lines

abbrev pub with_fragment : TreeFacts → Notation → UserInput → List (List ℕ) → UserInput
with_fragment tree notation input lines = (reading_of tree notation input (record { name = []; bytes = fragment_text lines } ∷ [])).input

abbrev pub fragment_alone : TreeFacts → Notation → List (List ℕ) → ReadResult
fragment_alone tree notation lines = read_alone tree notation [] (fragment_text lines)

-- Whether a symbol has a value, and whether it is in conflict: it is selected above its dependencies (K11).
abbrev pub has_value : Solution → SymId → GivenValue → Bool
has_value solution s given = same_given given (given_of (known solution s))

abbrev pub is_conflict : Warning → Bool
is_conflict warning = elim warning [ Selected called to limit ↦ true | _ ↦ false ]

abbrev pub is_in_conflict : Solution → SymId → Bool
is_in_conflict solution s = list_any is_conflict
    (warnings_of solution.tree (known solution) (name solution.tree s) (facts solution.tree s) (place_at solution.places (SymbolPlace s.0)))

-- The goal is reached if the symbol has the value, and no symbol is in conflict that was not so before.
abbrev pub reaches : Goal → Solution → Solution → Bool
reaches goal before solution = has_value solution goal.symbol goal.value
    && list_all (λ s. is_in_conflict before s || not (is_in_conflict solution s)) solution.tree.defined

-- `before` is the solution of the tree for the input.
module _ (tree : TreeFacts) (notation : Notation) (input : UserInput) (before : Solution) (goal : Goal) where
  -- The one solution with a fragment of these lines reaches the goal, or does not.
  pub record Ends (is_reached : Bool) (lines : List (List ℕ)) : Type 0 where
    pub solution : Solution
    pub is_solution : IsSolutionFor tree (with_fragment tree notation input lines).places solution
    pub reached : reaches goal before solution ≡ is_reached

  -- A fragment is a fix. Read alone, it has no warning (K7 to K10) and no line that is too long: so no symbol stands twice in it. With it the goal is
  -- reached, and each of its symbols has the value of its line. With any one of its lines left out the goal is not reached.
  pub record IsFix (lines : List (List ℕ)) : Type 0 where
    pub quiet : (fragment_alone tree notation lines).warned ≡ []
    pub whole : (fragment_alone tree notation lines).stopped ≡ None
    pub ends : Ends true lines
    pub taken : (s : SymId) (given : GivenValue) → place_at (fragment_alone tree notation lines).input.places (SymbolPlace s.0) ≡ Some given →
        has_value ends.solution s given ≡ true
    pub needed : (i : ℕ) → i < length lines → Ends false (take i lines ++ drop (i + 1) lines)

-- ---- What no input does
-- No input gives the symbol the value.
abbrev pub IsOutOfReach : TreeFacts → Goal → Type 0
IsOutOfReach tree goal = (user : UserPlace → Option GivenValue) (V : ℕ → SymbolValue) → IsUnder tree user V →
    same_given goal.value (given_of (known_from tree V goal.symbol)) ≡ false
