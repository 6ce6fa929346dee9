-- Trusted: The text of a fix, with its cost as comments, and the errors E25 and E26.
-- Our own.
use Rattle.std.specs.{List.{flat_map}, Prelude.{Bool, List, None, Option, Some, [], codes, decimal, false, filter, if◌then◌else◌, length, nat_le, not, true, ℕ, ◌&&◌, ◌++◌, ◌==◌}}
use Rattle.kc_language.specs.{ConfigFile.{Notation, StreamLocation, UserInput, place_at, plain_line, value_text}, Statements.{error_line}, Symbols.{TreeFacts}, Texts.{Solution, known}, Values.{GivenValue, SymbolPlace, facts, given_of, name, same_given, type_in}, declared.expressions.{SymId.SymId, SymbolType.{SymbolType, TheVariants.{Bool as IsBool, Hex, Int, Str, Tristate, Undefined}}}}
use Rattle.kc_how.specs.{How.{Goal, fragment_alone, fragment_text, has_value}, declared.answer.Miss.{Miss, TheVariants.{NoPlanLeft, NoTryLeft}}}

-- `CONFIG_NAME=value`, and where an input file says it.
abbrev pub setting : TreeFacts → Notation → SymId → GivenValue → List ℕ
setting tree notation s given = notation.prefix ++ name tree s ++ codes "=" ++ value_text notation.is_raw (type_in (facts tree s)) given

abbrev pub location_text : Option StreamLocation → List ℕ
location_text at = elim at [ None ↦ [] | Some place ↦ codes " (" ++ place.stream ++ codes ":" ++ decimal place.number ++ codes ")" ]

-- From this many other values on, the fix may be meant for another board or architecture.
abbrev pub many_changes : ℕ
many_changes = 100

abbrev pub many_text : ℕ → List ℕ
many_text n = if nat_le many_changes n then codes " (it may be meant for another board or architecture)" else []

abbrev pub changes_line : ℕ → List ℕ
changes_line n = codes "# other values that change: " ++ decimal n ++ many_text n ++ codes "\n"

-- The solutions before and after a fragment of these lines.
module _ (tree : TreeFacts) (notation : Notation) (input : UserInput) (before after : Solution) (lines : List (List ℕ)) where
  -- what the fragment gives a symbol, and what the user's input files gave it
  abbrev pub own_value : SymId → Option GivenValue
  own_value s = place_at (fragment_alone tree notation lines).input.places (SymbolPlace s.0)

  abbrev pub user_value : SymId → Option GivenValue
  user_value s = place_at input.places (SymbolPlace s.0)

  -- A value of the user that the fragment overrides, as K15 reports it; and one that was in force, and that the fragment makes lost (K14).
  abbrev pub override_line : SymId → GivenValue → GivenValue → List ℕ
  override_line s old new =
      if same_given old new then []
      else codes "# overrides " ++ setting tree notation s old ++ location_text (plain_line input input.lines s) ++ codes "\n"

  abbrev pub is_loss : SymId → GivenValue → Bool
  is_loss s old = has_value before s old && not (has_value after s old)

  abbrev pub loss_line : SymId → GivenValue → List ℕ
  loss_line s old =
      if is_loss s old then codes "# loses " ++ setting tree notation s old ++ location_text (plain_line input input.lines s) ++ codes ", now "
      ++ value_text notation.is_raw (type_in (facts tree s)) (given_of (known after s)) ++ codes "\n"
      else []

  abbrev pub cost_line : SymId → List ℕ
  cost_line s = elim (user_value s) [
    | None ↦ []
    | Some old ↦ elim (own_value s) [ None ↦ loss_line s old | Some new ↦ override_line s old new ]
  ]

  -- Another value that changes: the fragment does not give it, and it is no loss.
  abbrev pub is_other : SymId → Bool
  is_other s = elim (own_value s) [
    | Some new ↦ false
    | None ↦ not (same_given (given_of (known before s)) (given_of (known after s))) && not (elim (user_value s) [ None ↦ false | Some old ↦ is_loss s old ])
  ]

  -- The lines of the fragment; how many other values change; and what it costs the user. Without lines the goal is reached already.
  abbrev pub fix_text : Goal → List ℕ
  fix_text goal =
      if length lines == 0 then codes "# " ++ setting tree notation goal.symbol goal.value ++ codes " already\n"
      else fragment_text lines ++ changes_line (length (filter is_other tree.defined)) ++ flat_map cost_line tree.defined

  -- Whether no value of the user is lost, but those that the fragment overrides.
  abbrev pub loses_nothing : Bool
  loses_nothing = length (filter (λ s. elim (user_value s) [
    | None ↦ false
    | Some old ↦ elim (own_value s) [ None ↦ is_loss s old | Some new ↦ false ]
  ]) tree.defined) == 0

-- E25: no input reaches the goal; below it a symbol that is always n. Or the text is no value of the type. E26: no fix was found.
abbrev pub impossible_line : TreeFacts → Notation → Goal → List ℕ
impossible_line tree notation goal = error_line (codes "E25: no input gives " ++ setting tree notation goal.symbol goal.value)

abbrev pub reason_text : SymbolType → List ℕ
reason_text kind = elim kind [ Undefined ↦ codes ": not defined\n" | _ ↦ codes ": always n\n" ]

abbrev pub reason_line : TreeFacts → SymId → List ℕ
reason_line tree s = codes "  " ++ name tree s ++ reason_text (type_in (facts tree s))

abbrev pub type_words : SymbolType → List ℕ
type_words Undefined = codes "no type"
type_words IsBool = codes "the type bool"
type_words Tristate = codes "the type tristate"
type_words Str = codes "the type string"
type_words Int = codes "the type int"
type_words Hex = codes "the type hex"

abbrev pub no_value_text : TreeFacts → Notation → SymId → List ℕ → List ℕ
no_value_text tree notation s text =
    error_line (codes "E25: " ++ notation.prefix ++ name tree s ++ codes " has " ++ type_words (type_in (facts tree s)) ++ codes ": not " ++ text)

abbrev pub miss_text : ℕ → Miss → List ℕ
miss_text steps NoTryLeft = codes " was found in " ++ decimal steps ++ codes " tries; --how-steps allows more"
miss_text steps NoPlanLeft = codes " was found, and none is left to try"

abbrev pub not_found_text : TreeFacts → Notation → Goal → ℕ → Miss → List ℕ
not_found_text tree notation goal steps miss = error_line (codes "E26: no way to " ++ setting tree notation goal.symbol goal.value ++ miss_text steps miss)
