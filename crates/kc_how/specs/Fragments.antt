-- For proofs: What the text of a fragment gives, and what is asked of it.
use Rattle.std.specs.{Prelude.{Bool, List, None, Option, Some, [], drop, false, is_some, length, map, not, take, true, ℕ, ◌++◌, ◌+◌, ◌<◌, ◌∷◌, ◌≡◌}, declared.{alloc.Global.Global, vec.Vec.Vec}}
use Rattle.kc_language.specs.{ConfigFile.{Places, ReadResult, place_at, reading_of}, Expressions.SymbolValue, Symbols.{SymbolFacts, TreeFacts}, Texts.Solution, Values.{GivenValue, SymbolPlace, above, direct, selected_to}, declared.expressions.{SymId.SymId, SymbolType.{SymbolType, TheVariants.{Bool as IsBool, Tristate}}}}
use Rattle.kc_how.specs.{How.{Ends, has_value}, Questions.goal_of, declared.{fix.Alone.Alone, question.Question.Question}}

-- the bytes of each line
abbrev pub lines_in : List (Vec ℕ Global) → List (List ℕ)
lines_in lines = map (λ (line : Vec ℕ Global). line.items) lines

-- what was read
pub record IsRead (read : ReadResult) (alone : Alone) : Type 0 where
  pub input : alone.input ≡ read.input
  pub warned : alone.warned.items ≡ read.warned
  pub whole : alone.is_whole ≡ not (is_some read.stopped)

-- what the input files give with a text after them
abbrev pub with_text : Question → List ℕ → Places
with_text q text = (reading_of q.laid.now.tree.now q.prefix.now q.input.now (record { name = []; bytes = text } ∷ [])).input.places

-- whether the goal is reached with these lines
abbrev pub EndsIn : Question → Bool → List (List ℕ) → Type 0
EndsIn q is_reached lines = Ends q.laid.now.tree.now q.prefix.now q.input.now q.before.now (goal_of q.goal.now) is_reached lines

-- without any one of these lines it is not
abbrev pub NeedsEach : Question → List (List ℕ) → Type 0
NeedsEach q lines = (i : ℕ) → i < length lines → EndsIn q false (take i lines ++ drop (i + 1) lines)

-- each symbol that is given a value has it
abbrev pub HasValues : Places → Solution → Type 0
HasValues places solution = (s : SymId) (given : GivenValue) → place_at places (SymbolPlace s.0) ≡ Some given → has_value solution s given ≡ true

-- whether a symbol with these facts, of this type, is in conflict
abbrev pub is_above_limit : TreeFacts → (SymId → SymbolValue) → SymbolFacts → SymbolType → Bool
is_above_limit tree known f kind = let reached = above (selected_to tree known f) (direct tree known f) in elim kind [ IsBool ↦ reached | Tristate ↦ reached | _ ↦ false ]

abbrev pub is_in_conflict_by : TreeFacts → (SymId → SymbolValue) → Option SymbolFacts → Bool
is_in_conflict_by tree known o = elim o [ None ↦ false | Some f ↦ elim f.choice [ None ↦ is_above_limit tree known f f.symbol_type | _ ↦ false ] ]
