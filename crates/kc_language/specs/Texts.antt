-- Trusted: 11. Texts: what a run writes: the `.config`, the header, the minimal file, and the warnings K11 to K14 about values.
-- Source: our own, like the kernel's `conf` and kconfiglib (docs/language.md, "Texts"). At the end: what reading a written file again gives.
use Rattle.kc_language.specs.{ConfigFile.{ArePlacesOf, Notation, Places, ReadResult, StreamLocation, Unset, UserInput, is_within, lines_from, meaning_of, no_input, place_at, reading_of, string_text, text_in_config, value_text}, Expressions.{SymbolValue, TextValue, Truth, tri_text}, Lines.{is_line_feed}, Symbols.{CommentShown, Condition, EndShown, MenuShown, Shown, SymbolFacts, SymbolShown, TreeFacts, Warning, located_warning, warning_line}, Text.{byte, has_hex_prefix, hex_of, int_of, longest_value}, Tokens.{is_blank}, Values.{GivenValue, IsOnlySolution, Solves, SymbolPlace, UserPlace, above, active_range, changes_on_reread, clamped, condition, differs, direct, equations, facts, first_met, given_of, if_within_range, is_n, is_new, is_within_range, known_from, name, name_count, number_text, same_given, selected_to, single_text, visibility, visible_text, written}, declared.{diagnostics.{Warning.{TheVariants.{DefaultOutside, Lost, LostWithoutPrompt, Selected, UserOutside}}}, expressions.{SymId.{SymId}, SymbolType.{SymbolType, TheVariants.{Bool as IsBool, Hex, Int, Str, Tristate, Undefined}}, Tri.{TheVariants.{M, N, Y}, Tri}}, values.{Interval.{Interval}}}}
use Rattle.std.specs.{List.{enumerate_from, last_or}, Option.{option_map_or}, Prelude.{All, Bool, List, None, Option, Some, [], codes, false, filter, flat_map, if◌then◌else◌, is_some, length, map, not, option_map, slice_get, slice_index_or, take, true, ℕ, ◌++◌, ◌<◌, ◌==◌, ◌||◌, ◌↔◌, ◌∷◌, ◌≡◌, ◌≤◌}, Str.{Lines.{strip_carriage_return}}}

-- The line of a `.config`. `called` is the prefix with the symbol's name: `CONFIG_NAME`.
abbrev pub config_file_line : Bool → List ℕ → SymbolValue → List ℕ
config_file_line is_raw called (Truth N) = codes "# " ++ called ++ codes " is not set\n"
config_file_line is_raw called (Truth M) = called ++ codes "=m\n"
config_file_line is_raw called (Truth Y) = called ++ codes "=y\n"
config_file_line is_raw called (TextValue Undefined text) = []
config_file_line is_raw called (TextValue IsBool text) = []
config_file_line is_raw called (TextValue Tristate text) = []
config_file_line is_raw called (TextValue kind text) = called ++ codes "=" ++ text_in_config is_raw kind text ++ codes "\n"

-- The line of a new symbol. An int or hex whose value is no number has a comment, since no line can give it that value.
abbrev pub has_value : SymbolValue → Bool
has_value v = elim v [ TextValue Int text ↦ is_some (int_of text) | TextValue Hex text ↦ is_some (hex_of text) | _ ↦ true ]

abbrev pub new_line : Bool → List ℕ → SymbolValue → List ℕ
new_line is_raw called v = if has_value v then config_file_line is_raw called v else codes "# " ++ called ++ codes " has no value\n"

-- The line of a header. A hex begins with `0x` there; n has no line.
abbrev pub header_line : Bool → List ℕ → SymbolValue → List ℕ
header_line is_raw called (Truth M) = codes "#define " ++ called ++ codes "_MODULE 1\n"
header_line is_raw called (Truth Y) = codes "#define " ++ called ++ codes " 1\n"
header_line is_raw called (TextValue Str text) = codes "#define " ++ called ++ codes " " ++ string_text is_raw text ++ codes "\n"
header_line is_raw called (TextValue Int text) = codes "#define " ++ called ++ codes " " ++ text ++ codes "\n"
header_line is_raw called (TextValue Hex text) = codes "#define " ++ called ++ codes " " ++ (if has_hex_prefix text then text else codes "0x" ++ text) ++ codes "\n"
header_line is_raw called _ = []

-- What the files need from a solution: the value of a symbol, whether it is written, whether it differs, whether it is new, and the value of a condition.
pub record SolutionView : Type 0 where
  pub value : SymId → SymbolValue
  pub written : SymId → Bool
  pub differs : SymId → Bool
  pub is_new : SymId → Bool
  pub truth : Condition → Tri

-- A menu or a comment is shown unless its condition is n. `title_lines`: the lines of its title. `shown_title`: the title of a shown menu, for its end line.
abbrev pub is_shown : Tri → Bool
is_shown t = not (is_n t)

abbrev pub title_lines : List ℕ → List ℕ
title_lines text = codes "\n#\n# " ++ text ++ codes "\n#\n"

abbrev pub shown_title : SolutionView → Option Shown → Option (List ℕ)
shown_title solution e = elim e [ Some (MenuShown text when) ↦ if is_shown (solution.truth when) then Some text else None | _ ↦ None ]

-- An entry has lines if it is a written symbol, a shown title or the end of a shown menu. `end_is_last`: the last entry that has lines is an end.
abbrev pub has_lines : TreeFacts → SolutionView → Shown → Bool
has_lines tree solution (SymbolShown s) = solution.written s
has_lines tree solution (MenuShown text when) = is_shown (solution.truth when)
has_lines tree solution (EndShown menu) = is_some (shown_title solution (slice_get tree.entries menu))
has_lines tree solution (CommentShown text when) = is_shown (solution.truth when)

abbrev pub end_is_last : TreeFacts → SolutionView → List Shown → Bool
end_is_last tree view es = option_map_or (λ e. elim e [ EndShown k ↦ true | _ ↦ false ]) (last_or None (filter (has_lines tree view) es)) false

module _ (tree : TreeFacts) (notation : Notation) (solution : SolutionView) where
  -- The `.config` lines of a symbol and of an entry. An empty line separates an end line from a symbol's line directly after it.
  abbrev pub symbol_config : SymId → List ℕ
  symbol_config s = config_file_line notation.is_raw (notation.prefix ++ name tree s) (solution.value s)

  abbrev pub entry_text : Bool → Shown → List ℕ
  entry_text after_end (SymbolShown s) = if solution.written s then (if after_end then codes "\n" else []) ++ symbol_config s else []
  entry_text after_end (MenuShown text when) = if is_shown (solution.truth when) then title_lines text else []
  entry_text after_end (EndShown menu) =
      elim (shown_title solution (slice_get tree.entries menu)) [ None ↦ [] | Some text ↦ codes "# end of " ++ text ++ codes "\n" ]
  entry_text after_end (CommentShown text when) = if is_shown (solution.truth when) then title_lines text else []

  -- The `.config`: a heading, and the lines of the entries in order.
  unfoldable pub config_text : List ℕ
  config_text = (codes "#\n# Automatically generated file; DO NOT EDIT.\n# " ++ tree.main_menu ++ codes "\n#\n")
      ++ flat_map (λ (i, entry). entry_text (end_is_last tree solution (take i tree.entries)) entry) (enumerate_from 0 tree.entries)

  -- The header: a heading, and the header lines of the written symbols in order of first definition.
  unfoldable pub header_text : List ℕ
  header_text = (codes "/*\n * Automatically generated file; DO NOT EDIT.\n * " ++ tree.main_menu ++ codes "\n */\n")
      ++ flat_map (λ s. if solution.written s then header_line notation.is_raw (notation.prefix ++ name tree s) (solution.value s) else []) tree.defined

  -- The minimal file: the `.config` lines of the symbols that differ, in the same order.
  unfoldable pub minimal_text : List ℕ
  minimal_text = flat_map (λ s. if solution.differs s then symbol_config s else []) tree.defined

  -- The list of new symbols: their lines, in the same order.
  abbrev pub symbol_new : SymId → List ℕ
  symbol_new s = new_line notation.is_raw (notation.prefix ++ name tree s) (solution.value s)

  unfoldable pub new_text : List ℕ
  new_text = flat_map (λ s. if solution.is_new s then symbol_new s else []) tree.defined

-- ---- Warnings about values
-- K12: a visible user value is outside the active range. K13: a default is outside it, and no user value is `used`.
abbrev pub user_warnings : SymbolType → List ℕ → Option Interval → Option (List ℕ) → List Warning
user_warnings kind called (Some r) (Some t) =
    if is_within_range kind (Some r) t then [] else UserOutside called t (number_text kind r.low) (number_text kind r.high) ∷ []
user_warnings kind called _ _ = []

abbrev pub default_warnings : SymbolType → List ℕ → Option Interval → Option (List ℕ) → Option (List ℕ) → List Warning
default_warnings kind called r (Some used) d = []
default_warnings kind called (Some r) None (Some t) =
    if is_within_range kind (Some r) t then []
    else DefaultOutside called t (number_text kind r.low) (number_text kind r.high) (clamped kind (Some r) t) ∷ []
default_warnings kind called _ None _ = []

-- For the symbol `called` with facts `f`. K11: it is selected above its direct dependency. A member of a choice has none of K11 to K13.
module _ (tree : TreeFacts) (known : SymId → SymbolValue) where
  abbrev pub select_warnings : List ℕ → SymbolFacts → List Warning
  select_warnings called f = let to = selected_to tree known f in let limit = direct tree known f in
      if above to limit then Selected called (tri_text to) (tri_text limit) ∷ [] else []

  abbrev pub range_warnings : List ℕ → SymbolFacts → Option GivenValue → List Warning
  range_warnings called f user =
      let range = active_range tree known f in let given = visible_text user (visibility tree known f) in
      user_warnings f.symbol_type called range given
      ++ default_warnings f.symbol_type called range (if_within_range f.symbol_type range given)
      (option_map (λ g. single_text known g.what) (first_met tree known f.defaults))

  abbrev pub warnings_by_type : List ℕ → SymbolFacts → SymbolType → Option GivenValue → List Warning
  warnings_by_type called f IsBool user = select_warnings called f
  warnings_by_type called f Tristate user = select_warnings called f
  warnings_by_type called f Int user = range_warnings called f user
  warnings_by_type called f Hex user = range_warnings called f user
  warnings_by_type called f _ user = []

  abbrev pub warnings_of : List ℕ → Option SymbolFacts → Option GivenValue → List Warning
  warnings_of called o = elim o [ None ↦ λ user. [] | Some f ↦ elim f.choice [ None ↦ warnings_by_type called f f.symbol_type | _ ↦ λ user. [] ] ]

-- A tree, the user's values, and the values of its symbols by number.
pub record Solution : Type 0 where
  pub tree : TreeFacts
  pub places : Places
  pub values : List SymbolValue

abbrev pub value_of : Solution → ℕ → SymbolValue
value_of s i = slice_index_or s.values i (TextValue Undefined [])

abbrev pub known : Solution → SymId → SymbolValue
known s = known_from s.tree (value_of s)

-- There is one value for each symbol. The values solve the equations for the user's values, and no others do.
pub record IsSolution (s : Solution) : Type 0 where
  pub places : ArePlacesOf s.tree s.places
  pub count : length s.values ≡ name_count s.tree
  pub solves : Solves (name_count s.tree) (equations s.tree (place_at s.places)) (value_of s)
  pub only : IsOnlySolution (name_count s.tree) (equations s.tree (place_at s.places)) (value_of s)

-- the one solution of the tree's equations for these user values
pub record IsSolutionFor (tree : TreeFacts) (places : Places) (solution : Solution) : Type 0 where
  pub tree_is : solution.tree ≡ tree
  pub places_are : solution.places ≡ places
  pub solves : IsSolution solution

-- What the files need, for values V; and for a solution.
abbrev pub valuation_view : TreeFacts → (UserPlace → Option GivenValue) → (ℕ → SymbolValue) → SolutionView
valuation_view tree user V = record {
  value = known_from tree V;
  written = written tree (known_from tree V);
  differs = λ s. differs tree user V s.0;
  is_new = is_new tree (known_from tree V) user;
  truth = condition tree (known_from tree V);
}

abbrev pub solution_view : Solution → SolutionView
solution_view s = valuation_view s.tree (place_at s.places) (value_of s)

-- The warnings K11 to K13 of a solution, in order of first definition; and their lines as printed.
abbrev pub value_warnings : Solution → List Warning
value_warnings s = flat_map (λ i. warnings_of s.tree (known s) (name s.tree i) (facts s.tree i) (place_at s.places (SymbolPlace i.0))) s.tree.defined

abbrev pub warnings : Solution → List (List ℕ)
warnings s = map warning_line (value_warnings s)

-- K14: the last line for the symbol, `at`, gave a value that the symbol does not have. The warning says so if the symbol has no prompt.
abbrev pub has_prompt : List Condition → Bool
has_prompt cs = elim cs [ [] ↦ false | _ ↦ true ]

abbrev pub lost_warning : Bool → Bool → List ℕ → SymbolType → GivenValue → GivenValue → Warning
lost_warning is_raw prompted called kind given value =
    if prompted then Lost called (value_text is_raw kind given) (value_text is_raw kind value)
    else LostWithoutPrompt called (value_text is_raw kind given) (value_text is_raw kind value)

abbrev pub lost_by : Bool → Bool → List ℕ → SymbolType → Option StreamLocation → Option GivenValue → GivenValue → List (List ℕ)
lost_by is_raw prompted called kind at None value = []
lost_by is_raw prompted called kind (Some at) (Some given) value =
    if same_given given value then [] else located_warning at.stream at.number (lost_warning is_raw prompted called kind given value) ∷ []
lost_by is_raw prompted called kind _ _ value = []

abbrev pub lost_of : Bool → List ℕ → Option SymbolFacts → Option StreamLocation → Option GivenValue → GivenValue → List (List ℕ)
lost_of is_raw called None at given value = []
lost_of is_raw called (Some f) at given value = lost_by is_raw (has_prompt f.prompts) called f.symbol_type at given value

abbrev pub lost_at : Bool → List (Option StreamLocation) → Solution → SymId → List (List ℕ)
lost_at is_raw lines s i =
    lost_of is_raw (name s.tree i) (facts s.tree i) (slice_index_or lines i.0 None) (place_at s.places (SymbolPlace i.0)) (given_of (known s i))

abbrev pub lost_lines : Bool → List (Option StreamLocation) → Solution → List (List ℕ)
lost_lines is_raw lines s = flat_map (lost_at is_raw lines s) s.tree.defined

-- ---- Reading a written file again
-- What reading this text alone gives, under this name.
abbrev pub read_alone : TreeFacts → Notation → List ℕ → List ℕ → ReadResult
read_alone tree notation stream text = reading_of tree notation (no_input false tree) (record { name = stream; bytes = text } ∷ [])

-- V is the only solution for these user values.
pub record IsOneSolution (tree : TreeFacts) (places : Places) (V : ℕ → SymbolValue) : Type 0 where
  pub solves : Solves (name_count tree) (equations tree (place_at places)) V
  pub only : IsOnlySolution (name_count tree) (equations tree (place_at places)) V

-- Reading the minimal file of a solution gives the same solution.
abbrev pub MinimalGivesBack : TreeFacts → Notation → Places → (ℕ → SymbolValue) → Type 0
MinimalGivesBack tree notation places V =
    (stream : List ℕ) → let read = read_alone tree notation stream (minimal_text tree notation (valuation_view tree (place_at places) V)) in
    (read.stopped ≡ None) × IsOneSolution tree read.input.places V

-- The minimal file needs each of its lines. Each symbol's text is one line. If any are left out, the values that are read do not give this solution.
abbrev pub MinimalNeedsEach : TreeFacts → Notation → Places → (ℕ → SymbolValue) → Type 0
MinimalNeedsEach tree notation places V =
    (stream : List ℕ) (keep : SymId → Bool) (s : SymId) →
    s.0 < name_count tree → differs tree (place_at places) V s.0 ≡ true → keep s ≡ false →
    let view = valuation_view tree (place_at places) V in
    let kept = flat_map (λ t. if keep t then (if view.differs t then symbol_config tree notation view t else []) else []) tree.defined in
    let read = read_alone tree notation stream kept in
    ((body : List ℕ) × (symbol_config tree notation view s ≡ body ++ codes "\n") × All (λ b. is_line_feed b ≡ false) body)
    × (read.stopped ≡ None)
    × ((W : ℕ → SymbolValue) → Solves (name_count tree) (equations tree (place_at read.input.places)) W → ((i : ℕ) → i < name_count tree → W i ≡ V i) → ⊥)

-- No written int or hex value ends in a blank or a carriage return.
abbrev pub EndsPlainly : List ℕ → Type 0
EndsPlainly text = (front : List ℕ) (b : ℕ) → text ≡ front ++ b ∷ [] → (is_blank b || b == byte "\r") ≡ false

abbrev pub HasPlainNumbers : TreeFacts → (ℕ → SymbolValue) → Type 0
HasPlainNumbers tree V = (s : SymId) → s.0 < name_count tree → written tree (known_from tree V) s ≡ true →
    elim (V s.0) [ TextValue Int text ↦ EndsPlainly text | TextValue Hex text ↦ EndsPlainly text | _ ↦ Unit {0} ]

-- No written title reads as `# CONFIG_NAME is not set`: neither the main menu's nor that of a menu or comment.
abbrev pub IsNotUnsetLine : List ℕ → List ℕ → Type 0
IsNotUnsetLine prefix bytes = (called : List ℕ) → meaning_of prefix (strip_carriage_return bytes) ≡ Unset called → ⊥

abbrev pub HasPlainTitle : List ℕ → SolutionView → Shown → Type 0
HasPlainTitle prefix solution (MenuShown text when) = is_shown (solution.truth when) ≡ true → IsNotUnsetLine prefix (codes "# " ++ text)
HasPlainTitle prefix solution (CommentShown text when) = is_shown (solution.truth when) ≡ true → IsNotUnsetLine prefix (codes "# " ++ text)
HasPlainTitle prefix solution _ = Unit {0}

pub record HasPlainTitles (tree : TreeFacts) (prefix : List ℕ) (solution : SolutionView) : Type 0 where
  pub main_menu : IsNotUnsetLine prefix (codes "# " ++ tree.main_menu)
  pub entries : (i : ℕ) (e : Shown) → slice_get tree.entries i ≡ Some e → HasPlainTitle prefix solution e

-- With plain numbers and titles, reading the `.config` gives the solution back if and only if no symbol changes on rereading (`changes_on_reread`).
abbrev pub ConfigGivesBack : TreeFacts → Notation → Places → (ℕ → SymbolValue) → Type 0
ConfigGivesBack tree notation places V =
    HasPlainNumbers tree V → HasPlainTitles tree notation.prefix (valuation_view tree (place_at places) V) → (stream : List ℕ) →
    let read = read_alone tree notation stream (config_text tree notation (valuation_view tree (place_at places) V)) in
    (read.stopped ≡ None) × (IsOneSolution tree read.input.places V ↔ ((i : ℕ) → i < name_count tree → changes_on_reread tree V i ≡ false))

-- No new string is too long for a line when it is written in quotes with its escapes.
abbrev pub HasShortStrings : TreeFacts → SolutionView → (ℕ → SymbolValue) → Type 0
HasShortStrings tree view V = (s : SymId) (text : List ℕ) → s.0 < name_count tree → view.is_new s ≡ true → V s.0 ≡ TextValue Str text →
    length (text_in_config false Str text) ≤ longest_value

-- Reading the list of new symbols after the input files that gave these user values. With short strings there is no warning. The values stay if and
-- only if no new symbol changes on rereading. Under these values a symbol is still new only if it was new and its line is a comment.
abbrev pub NewGivesBack : TreeFacts → Notation → UserInput → (ℕ → SymbolValue) → Type 0
NewGivesBack tree notation input V =
    HasShortStrings tree (valuation_view tree (place_at input.places) V) V → (stream : List ℕ) → let view = valuation_view tree (place_at input.places) V in
    let read = reading_of tree notation input (record { name = stream; bytes = new_text tree notation view } ∷ []) in
    (read.stopped ≡ None) × (read.warned ≡ [])
    × (IsOneSolution tree read.input.places V ↔ ((s : SymId) → s.0 < name_count tree → view.is_new s ≡ true → changes_on_reread tree V s.0 ≡ false))
    × ((s : SymId) → s.0 < name_count tree → is_new tree (known_from tree V) (place_at read.input.places) s ≡ true → (view.is_new s ≡ true) × (has_value (V s.0) ≡ false))

-- No line of a written text is too long to be read again.
abbrev pub HasShortLines : List ℕ → Type 0
HasShortLines text = (stream : List ℕ) → All (λ l. is_within l ≡ true) (lines_from stream 1 text)
