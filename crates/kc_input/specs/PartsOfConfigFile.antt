-- Trusted: Names for parts of the definitions of ConfigFile.
use Rattle.std.specs.{Char.is_ascii_digit, List.{after_first, before_first, filter_map, list_any, position_or_len, suffix_len}, Option.{option_and_then, option_map_or}, Prelude.{Bool, List, None, Option, Some, [], codes, drop, false, find, if◌then◌else◌, length, nat_le, nat_lt, not, option_map, slice_index, take, take_while, ℕ, ◌&&◌, ◌++◌, ◌-◌, ◌==◌, ◌∷◌}, Str.Lines.strip_carriage_return}
use Rattle.kc_language.specs.{ConfigFile.{Assignment, Assigns, Effect, Line, LineMeaning, Malformed, Notation, Nothing, RefusedLine, Set, Silent, StreamLocation, Unset, UserInput, Warns, change_text, effect, effect_warning, is_within, line_meaning, located_warning_line, meaning_of, name_and_value, place_at, plain_line, raw_string, set_by_type, set_text, stream_location, unset_by_type, unset_name, until_quote, value_by, value_text, without_prefix, without_suffix, yes_or_no}, Symbols.{TreeFacts, Warning}, Text.{byte, escape, longest_value, unescape}, Tokens.is_blank, Values.{GivenText, GivenValue, SymbolPlace, facts, is_yes, name as name_of, type_in}, declared.{diagnostics.Warning.TheVariants.{Changed, NotAllowed, UnknownSymbol}, expressions.{SymId.SymId, SymbolType.SymbolType, Tri.{TheVariants.M, Tri}}}}

-- these bytes followed by the rest of the text, if there is a rest
abbrev pub preceded : List ℕ → Option (List ℕ) → Option (List ℕ)
preceded bytes = option_map (λ rest. bytes ++ rest)

abbrev pub begins_with_digit : List ℕ → Bool
begins_with_digit text = is_ascii_digit (slice_index text 0)

-- the line without its trailing blanks
abbrev pub trimmed : List ℕ → List ℕ
trimmed bytes = take (length bytes - suffix_len is_blank bytes) bytes

-- at least one byte, and no blank
abbrev pub is_plain : List ℕ → Bool
is_plain name = nat_lt 0 (length name) && not (list_any is_blank name)

abbrev pub plain : List ℕ → Option (List ℕ)
plain name = if is_plain name then Some name else None

abbrev pub is_equals : ℕ → Bool
is_equals b = b == byte "="

abbrev pub is_hash : ℕ → Bool
is_hash b = b == byte "#"

-- the bytes before the first `=`, at least one, and the bytes after it
abbrev pub split_at_equals : List ℕ → Option (List ℕ × List ℕ)
split_at_equals text =
    if nat_lt 0 (position_or_len is_equals text) && nat_lt (position_or_len is_equals text) (length text)
    then Some (before_first is_equals text, after_first is_equals text) else None

-- the first byte that is not a blank is `#`
abbrev pub is_comment : List ℕ → Bool
is_comment text = option_map_or is_hash (find (λ b. not (is_blank b)) text) false

abbrev pub set_or_malformed : Option (List ℕ × List ℕ) → LineMeaning
set_or_malformed None = Malformed
set_or_malformed (Some parts) = Set parts.0 parts.1

abbrev pub not_unset : List ℕ → List ℕ → LineMeaning
not_unset prefix text = if is_comment text then Nothing else set_or_malformed (name_and_value prefix text)

abbrev pub unset_or : Option (List ℕ) → LineMeaning → LineMeaning
unset_or None other = other
unset_or (Some name) other = Unset name

-- the meaning of a line without trailing blanks
abbrev pub meaning_of_text : List ℕ → List ℕ → LineMeaning
meaning_of_text prefix text = if length text == 0 then Nothing else unset_or (unset_name prefix text) (not_unset prefix text)

-- the meaning of a line with these bytes before its line feed; a carriage return directly before the line feed belongs to the line's end
abbrev pub ended_meaning : List ℕ → List ℕ → LineMeaning
ended_meaning prefix bytes = meaning_of prefix (strip_carriage_return bytes)

-- `y`, `m` and `n`
abbrev pub yes_m_or_no : ℕ → Option Tri
yes_m_or_no b = if b == byte "m" then Some M else yes_or_no b

-- the text between the `"` at the start and the closing `"`
abbrev pub quoted : List ℕ → Option (List ℕ)
quoted text = if slice_index text 0 == byte "\"" then until_quote (drop 1 text) else None

-- the text between the first byte and the last one, each of which is a `"`
abbrev pub between_ends : List ℕ → Option (List ℕ)
between_ends text = option_and_then (without_suffix (codes "\"")) (without_prefix (codes "\"") text)

abbrev pub string_value : Bool → List ℕ → Option GivenValue
string_value is_raw text = option_map GivenText (if is_raw then raw_string text else option_map unescape (quoted text))

abbrev pub number_value : List ℕ → Bool → Option GivenValue
number_value text is_number = if is_number then Some (GivenText text) else None

-- a string's text between its quotes
abbrev pub between_quotes : Bool → List ℕ → List ℕ
between_quotes is_raw text = if is_raw then text else escape text

-- a text that is too long gives no value
abbrev pub line_value : Bool → SymbolType → List ℕ → Option GivenValue
line_value is_raw symbol_type text = if nat_le (length text) longest_value then value_by is_raw symbol_type text else None

-- the type of a symbol; an undefined name has none
abbrev pub type_of : TreeFacts → SymId → SymbolType
type_of tree s = type_in (facts tree s)

abbrev pub assigned_or : List ℕ → SymId → Option GivenValue → Effect
assigned_or name s None = Warns (NotAllowed name)
assigned_or name s (Some given) = Assigns s given

abbrev pub set_effect : Bool → TreeFacts → List ℕ → List ℕ → Option SymId → Effect
set_effect is_raw tree name text None = Warns (UnknownSymbol name)
set_effect is_raw tree name text (Some s) = set_by_type is_raw name s text (type_of tree s)

abbrev pub unset_effect : TreeFacts → List ℕ → Option SymId → Effect
unset_effect tree name None = Warns (UnknownSymbol name)
unset_effect tree name (Some s) = unset_by_type name s (type_of tree s)

abbrev pub line : List ℕ → ℕ → List ℕ → Bool → Line
line stream number bytes ended = record { stream = stream; number = number; bytes = bytes; ended = ended }

-- bytes after the last LF are a line, unless there are none
abbrev pub last_line : List ℕ → ℕ → List ℕ → List Line
last_line stream n bytes = if length bytes == 0 then [] else line stream n bytes false ∷ []

-- One carriage return directly before the LF belongs to the line's end.
abbrev pub text_of : Line → List ℕ
text_of l = if l.ended then strip_carriage_return l.bytes else l.bytes

abbrev pub assignment_of : Effect → Option Assignment
assignment_of Silent = None
assignment_of (Warns line_warning) = None
assignment_of (Assigns s given) = Some (record { symbol = s; given = given })

abbrev pub is_this_choice : ℕ → Option ℕ → Bool
is_this_choice c None = false
is_this_choice c (Some d) = d == c

-- the choice that a symbol is a member of
abbrev pub choice_of : TreeFacts → SymId → Option ℕ
choice_of tree s = option_and_then (λ f. f.choice) (facts tree s)

-- a member of choice c that is set to y is chosen in c
abbrev pub chosen_in : TreeFacts → ℕ → Assignment → Option SymId
chosen_in tree c a =
    if is_yes a.given && elim (option_and_then (λ f. f.choice) (facts tree a.symbol)) [ None ↦ false | Some d ↦ d == c ]
    then Some a.symbol else None

-- the value that an assignment gives to symbol i
abbrev pub given_to : ℕ → Assignment → Option GivenValue
given_to i a = if a.symbol.0 == i then Some a.given else None

abbrev pub warning_line_if : List ℕ → ℕ → Option Warning → List ℕ
warning_line_if stream number None = []
warning_line_if stream number (Some line_warning) = located_warning_line stream number line_warning

-- a line gives the symbol another value than an earlier line (K15)
abbrev pub change_line : Bool → StreamLocation → List ℕ → SymbolType → GivenValue → StreamLocation → GivenValue → List ℕ
change_line is_raw at called kind old from given =
    located_warning_line at.stream at.number (Changed called (value_text is_raw kind old) from.stream from.number (value_text is_raw kind given))

-- what a line changes, if the lines of the user values are kept
abbrev pub effect_change : Bool → TreeFacts → UserInput → StreamLocation → Effect → List ℕ
effect_change is_raw tree input at Silent = []
effect_change is_raw tree input at (Warns line_warning) = []
effect_change is_raw tree input at (Assigns s given) =
    change_text is_raw at (name_of tree s) (type_of tree s) (place_at input.places (SymbolPlace s.0)) (plain_line input input.lines s) given

-- the warnings of a line of this effect, after the given input
abbrev pub effect_text : Bool → TreeFacts → UserInput → StreamLocation → Effect → List ℕ
effect_text is_raw tree input at effect = warning_line_if at.stream at.number (effect_warning input.asks_unset tree input.places effect) ++ effect_change is_raw tree input at effect

-- the line that gives a value to symbol i
abbrev pub line_for : ℕ → StreamLocation → Effect → Option StreamLocation
line_for i at Silent = None
line_for i at (Warns line_warning) = None
line_for i at (Assigns s given) = if s.0 == i then Some at else None

-- the line whose value for symbol i is not allowed
abbrev pub refused_for : ℕ → RefusedLine → Option SymId → Option RefusedLine
refused_for i line None = None
refused_for i line (Some s) = if s.0 == i then Some line else None

-- only the lines before the first line that is too long count
abbrev pub before_too_long : List Line → List Line
before_too_long lines = take_while is_within lines

-- For a tree and a prefix.
module _ (tree : TreeFacts) (prefix : Notation) where
  -- the valid assignments of the lines, in order
  abbrev pub assignments : List Line → List Assignment
  assignments lines = filter_map (λ l. assignment_of (effect tree prefix l)) lines

  -- the line as it is kept if its value is not allowed
  abbrev pub refused_line : Line → RefusedLine
  refused_line l = record { at = stream_location l; value = set_text (line_meaning tree prefix l) }
