-- Trusted: 10. ConfigFile: what reading a `.config` and its fragments gives: the user's values, and the warnings K7 to K10, K15 and K16.
-- Source: our own, like the kernel's `conf` and kconfiglib (docs/language.md, "The `.config` file"). The result is `reading_of`, at the end.
use Rattle.std.specs.{Char.is_ascii_digit, List.{enumerate_from, last_or, list_all, list_any, position_or_len, slice_split, suffix_len}, Option.option_map_or, Str.Lines.strip_carriage_return, Prelude.{Bool, List, None, Option, Some, [], bytes_eq, codes, drop, false, filter_map, find, flat_map, if◌then◌else◌, is_some, length, min, nat_le, nat_lt, not, option_and_then, option_map, position, replicate, slice_index, slice_index_or, take, take_while, true, unwrap_or, ℕ, ◌&&◌, ◌++◌, ◌+◌, ◌-◌, ◌==◌, ◌^◌, ◌∷◌, ◌≡◌}}
use Rattle.kc_language.specs.{Expressions.{is_name_byte, same_name, symbol, tri_text}, Lines.is_line_feed, Symbols.{TreeFacts, Warning, located_warning}, Text.{byte, escape, hex_of, int_of, longest_input_line, longest_prefix, longest_value, unescape}, Tokens.is_blank, Values.{ChoicePlace, GivenText, GivenTruth, GivenValue, Member, SymbolPlace, UserPlace, facts, is_yes, name, same_given, type_in}, declared.{diagnostics.Warning.TheVariants.{Changed, MalformedLine, NotAllowed, SetAgain, TextUnset, UnknownSymbol}, expressions.{SymId.SymId, SymbolType.{SymbolType, TheVariants.{Bool as IsBool, Hex, Int, Str, Tristate, Undefined}}, Tri.{TheVariants.{M, N, Y}, Tri}}}}

-- A prefix, such as `CONFIG_`: at most 64 bytes, each allowed in a name. The first is no digit.
abbrev pub is_prefix : List ℕ → Bool
is_prefix text = not (is_ascii_digit (slice_index text 0)) && (nat_le (length text) longest_prefix && list_all is_name_byte text)

-- How files write names and strings: the prefix of names, and whether strings are raw, that is without escapes.
pub record Notation : Type 0 where
  pub prefix : List ℕ
  pub is_raw : Bool

-- A line says nothing, that a symbol is not set, or that a symbol has the value right of the first `=`; or it is malformed (K9).
pub data LineMeaning : Type 0 where
  Nothing : LineMeaning
  Unset : List ℕ → LineMeaning
  Set : List ℕ → List ℕ → LineMeaning
  Malformed : LineMeaning

-- The text without this prefix, or without this suffix, if it has it.
abbrev pub without_prefix : List ℕ → List ℕ → Option (List ℕ)
without_prefix front text = if bytes_eq (take (length front) text) front then Some (drop (length front) text) else None

abbrev pub without_suffix : List ℕ → List ℕ → Option (List ℕ)
without_suffix end text = let n = length text - length end in if bytes_eq (drop n text) end then Some (take n text) else None

-- The NAME of `# CONFIG_NAME is not set`: one byte or more, and no blank.
abbrev pub unset_name : List ℕ → List ℕ → Option (List ℕ)
unset_name prefix text =
    option_and_then (λ found. if nat_lt 0 (length found) && not (list_any is_blank found) then Some found else None)
    (option_and_then (without_suffix (codes " is not set")) (option_and_then (without_prefix prefix) (without_prefix (codes "# ") text)))

-- The NAME and the value of `CONFIG_NAME=value`: NAME is one byte or more, up to the first `=`.
abbrev pub name_and_value : List ℕ → List ℕ → Option (List ℕ × List ℕ)
name_and_value prefix text =
    option_and_then (λ rest. let n = position_or_len (λ b. b == byte "=") rest in
    if nat_lt 0 n && nat_lt n (length rest) then Some (take n rest, drop (n + 1) rest) else None) (without_prefix prefix text)

-- What a line says. Blanks at its end do not count. An unset line is recognized first. Any other line is a comment if its first byte that is no blank is `#`.
abbrev pub meaning_of : List ℕ → List ℕ → LineMeaning
meaning_of prefix bytes =
    let text = take (length bytes - suffix_len is_blank bytes) bytes in
    if length text == 0 then Nothing else option_map_or Unset (unset_name prefix text)
    (if option_map_or (λ b. b == byte "#") (find (λ b. not (is_blank b)) text) false then Nothing
    else elim (name_and_value prefix text) [ None ↦ Malformed | Some parts ↦ Set parts.0 parts.1 ])

-- The bytes before the first `"`, if there is one. A `\` and the byte after it are taken together, even if that byte is a `"`.
abbrev pub until_quote : List ℕ → Option (List ℕ)
until_quote [] = None
until_quote (b ∷ []) = if b == byte "\"" then Some [] else None
until_quote (b ∷ c ∷ bs) =
    if b == byte "\"" then Some [] else if b == byte "\\" then option_map (λ more. b ∷ c ∷ more) (until_quote bs)
    else option_map (λ more. b ∷ more) (until_quote (c ∷ bs))

-- The text of a string in quotes, up to its closing `"`, where `\c` is c. A raw string has no escapes: it is all bytes between the first and the last byte,
-- which are both `"`. The limit of a value's length counts a raw string as if it were written with escapes.
abbrev pub escaped_string : List ℕ → Option (List ℕ)
escaped_string text = option_map unescape (if slice_index text 0 == byte "\"" then until_quote (drop 1 text) else None)

abbrev pub raw_string : List ℕ → Option (List ℕ)
raw_string text = option_and_then (λ t. if nat_le (length (escape t) + 2) longest_value then Some t else None)
    (option_and_then (without_suffix (codes "\"")) (without_prefix (codes "\"") text))

-- The value that the text right of `=` gives a symbol of this type. For a bool or tristate only the first byte counts.
abbrev pub yes_or_no : ℕ → Option Tri
yes_or_no b = if b == byte "y" then Some Y else if b == byte "n" then Some N else None

abbrev pub value_by : Bool → SymbolType → List ℕ → Option GivenValue
value_by is_raw Undefined text = None
value_by is_raw IsBool text = option_map GivenTruth (yes_or_no (slice_index text 0))
value_by is_raw Tristate text = option_map GivenTruth (let b = slice_index text 0 in if b == byte "m" then Some M else yes_or_no b)
value_by is_raw Str text = option_map GivenText (if is_raw then raw_string text else escaped_string text)
value_by is_raw Int text = if is_some (int_of text) then Some (GivenText text) else None
value_by is_raw Hex text = if is_some (hex_of text) then Some (GivenText text) else None

-- What a line does: nothing, a warning, or a value for a symbol.
pub data Effect : Type 0 where
  Silent : Effect
  Warns : Warning → Effect
  Assigns : SymId → GivenValue → Effect

-- A set line gives its value, an unset line n. K7: no symbol of this name has a type. K8: the value is not allowed. K16: the unset line has no effect.
abbrev pub set_by_type : Bool → List ℕ → SymId → List ℕ → SymbolType → Effect
set_by_type is_raw called s text Undefined = Warns (UnknownSymbol called)
set_by_type is_raw called s text kind =
    elim (if nat_le (length text) longest_value then value_by is_raw kind text else None) [ None ↦ Warns (NotAllowed called) | Some given ↦ Assigns s given ]

abbrev pub unset_by_type : List ℕ → SymId → SymbolType → Effect
unset_by_type called s Undefined = Warns (UnknownSymbol called)
unset_by_type called s kind = elim kind [ IsBool ↦ Assigns s (GivenTruth N) | Tristate ↦ Assigns s (GivenTruth N) | _ ↦ Warns (TextUnset called) ]

abbrev pub symbol_named : TreeFacts → List ℕ → Option SymId
symbol_named tree called = option_map symbol (position (same_name called) tree.names)

abbrev pub effect_of : Bool → TreeFacts → LineMeaning → Effect
effect_of is_raw tree Nothing = Silent
effect_of is_raw tree (Unset called) =
    elim (symbol_named tree called) [ None ↦ Warns (UnknownSymbol called) | Some s ↦ unset_by_type called s (type_in (facts tree s)) ]
effect_of is_raw tree (Set called text) =
    elim (symbol_named tree called) [ None ↦ Warns (UnknownSymbol called) | Some s ↦ set_by_type is_raw called s text (type_in (facts tree s)) ]
effect_of is_raw tree Malformed = Warns MalformedLine

-- The text right of the `=` of a set line.
abbrev pub set_text : LineMeaning → List ℕ
set_text said = elim said [ Set called text ↦ text | _ ↦ [] ]

-- The symbol to which a line gives a value that is not allowed (K8), if the line does so.
abbrev pub not_allowed : TreeFacts → Effect → Option SymId
not_allowed tree e = elim e [ Warns w ↦ elim w [ NotAllowed called ↦ symbol_named tree called | _ ↦ None ] | _ ↦ None ]

-- A line is gone if no symbol with a type has its name (K7). It is on unless it is an unset line or its value is n. `said_line`: its text with a line feed.
abbrev pub is_gone : Effect → Bool
is_gone e = elim e [ Warns w ↦ elim w [ UnknownSymbol called ↦ true | _ ↦ false ] | _ ↦ false ]

abbrev pub is_on : LineMeaning → Bool
is_on line_meaning = elim line_meaning [ Set called text ↦ not (bytes_eq text (codes "n")) | _ ↦ false ]

abbrev pub said_line : List ℕ → LineMeaning → List ℕ
said_line prefix (Unset called) = codes "# " ++ prefix ++ called ++ codes " is not set\n"
said_line prefix (Set called text) = prefix ++ called ++ codes "=" ++ text ++ codes "\n"
said_line prefix _ = []

-- A line of the input file `stream`: its bytes before the line feed, and whether a line feed ends it. `is_within`: it is not too long.
pub record Line : Type 0 where
  pub stream : List ℕ
  pub number : ℕ
  pub bytes : List ℕ
  pub ended : Bool

abbrev pub is_within : Line → Bool
is_within l = nat_le (length l.bytes) longest_input_line

-- The file and line that diagnostics print.
pub record StreamLocation : Type 0 where
  pub stream : List ℕ
  pub number : ℕ

abbrev pub stream_location : Line → StreamLocation
stream_location l = record { stream = l.stream; number = l.number }

-- The lines of these bytes: the parts between line feeds. The last part is a line only if it is not empty. Numbers go on from n, and stay at 2^64 - 1.
abbrev pub lines_in_stream : List ℕ → ℕ → List (List ℕ) → List Line
lines_in_stream stream n [] = []
lines_in_stream stream n (last ∷ []) = if length last == 0 then [] else record { stream = stream; number = n; bytes = last; ended = false } ∷ []
lines_in_stream stream n (part ∷ next ∷ parts) =
    record { stream = stream; number = n; bytes = part; ended = true } ∷ lines_in_stream stream (min (n + 1) (2 ^ 64 - 1)) (next ∷ parts)

unfoldable pub lines_from : List ℕ → ℕ → List ℕ → List Line
lines_from stream n bytes = lines_in_stream stream n (slice_split is_line_feed bytes)

-- An input file: its name and its bytes. Its last line ends with the file.
pub record Stream : Type 0 where
  pub name : List ℕ
  pub bytes : List ℕ

abbrev pub lines_of : List Stream → List Line
lines_of streams = flat_map (λ s. lines_from s.name 1 s.bytes) streams

-- The user's values: for each symbol of the tree a value or none, and for each choice a member or none.
pub record Places : Type 0 where
  pub symbols : List (Option GivenValue)
  pub choices : List (Option SymId)

abbrev pub place_at : Places → UserPlace → Option GivenValue
place_at places (SymbolPlace i) = slice_index_or places.symbols i None
place_at places (ChoicePlace c) = option_map Member (slice_index_or places.choices c None)

pub record ArePlacesOf (tree : TreeFacts) (places : Places) : Type 0 where
  pub symbols : length places.symbols ≡ length tree.symbols
  pub choices : length places.choices ≡ length tree.choices

-- A symbol gets a value.
pub record Assignment : Type 0 where
  pub symbol : SymId
  pub given : GivenValue

-- f of each element and its index. The first element has index n.
abbrev pub each_from : {A B : Type 0} → (ℕ → A → B) → ℕ → List A → List B
each_from f n [] = []
each_from f n (x ∷ xs) = f n x ∷ each_from f (n + 1) xs

-- Each symbol has the value that it got last. Each choice has the member that was last made y. Without one, the old value stays.
unfoldable pub places_given : TreeFacts → Places → List Assignment → Places
places_given tree places given = record {
  symbols = each_from (λ i old. last_or old (filter_map (λ a. if a.symbol.0 == i then Some a.given else None) given)) 0 places.symbols;
  choices = each_from (λ c old. last_or old (filter_map (λ a.
      if is_yes a.given && elim (option_and_then (λ f. f.choice) (facts tree a.symbol)) [ None ↦ false | Some d ↦ d == c ]
      then Some a.symbol else None) given)) 0 places.choices;
}

-- A line whose value was not allowed (K8), with the text right of its `=`.
pub record RefusedLine : Type 0 where
  pub at : StreamLocation
  pub value : List ℕ

-- What files gave so far: user values; with --warn-lost, the line that gave each last and the last not allowed (K8), and whether K16 is reported; whether
-- all lines were taken as written; with --list-gone, the gone lines, first those that are on; with --each, the text before the names of fragments.
pub record UserInput : Type 0 where
  pub places : Places
  pub lines : List (Option StreamLocation)
  pub refused : List (Option RefusedLine)
  pub all_taken : Bool
  pub gone : Option (List ℕ × List ℕ)
  pub asks_unset : Bool
  pub lead : List ℕ

abbrev pub no_input : Bool → TreeFacts → UserInput
no_input keeps_lines tree = record {
  places = record { symbols = replicate (length tree.symbols) None; choices = replicate (length tree.choices) None };
  lines = if keeps_lines then replicate (length tree.symbols) None else [];
  refused = if keeps_lines then replicate (length tree.symbols) None else [];
  all_taken = true;
  gone = None;
  asks_unset = false;
  lead = [];
}

-- The location of a line without the name of the `.config` in front (--each), for a text that begins with that name.
abbrev pub plain_location : List ℕ → StreamLocation → StreamLocation
plain_location lead at = record at { stream = unwrap_or (without_prefix lead at.stream) at.stream }

abbrev pub plain_line : UserInput → List (Option StreamLocation) → SymId → Option StreamLocation
plain_line input lines s = option_map (plain_location input.lead) (slice_index_or lines s.0 None)

abbrev pub plain_refused : UserInput → SymId → Option RefusedLine
plain_refused input s = option_map (λ (r : RefusedLine). record r { at = plain_location input.lead r.at }) (slice_index_or input.refused s.0 None)

-- K16 is reported only if it is requested. Any other warning about a line is always reported.
abbrev pub is_reported : Bool → Warning → Bool
is_reported asked w = elim w [ TextUnset called ↦ asked | _ ↦ true ]

-- A line is taken as written if no warning about it is reported, except a K10 with the value that the symbol already has.
abbrev pub is_change : Option GivenValue → GivenValue → Bool
is_change None given = false
is_change (Some old) given = not (same_given old given)

abbrev pub is_taken : Bool → Places → Effect → Bool
is_taken asked places e = elim e [ Silent ↦ true | Warns w ↦ not (is_reported asked w) | Assigns s given ↦ not (is_change (place_at places (SymbolPlace s.0)) given) ]

-- A value as a .config writes it: a string in quotes, raw or with a `\` before each `"` and `\`; a number as it is.
abbrev pub string_text : Bool → List ℕ → List ℕ
string_text is_raw text = codes "\"" ++ (if is_raw then text else escape text) ++ codes "\""

abbrev pub text_in_config : Bool → SymbolType → List ℕ → List ℕ
text_in_config is_raw kind = elim kind [ Str ↦ string_text is_raw | _ ↦ λ text. text ]

abbrev pub value_text : Bool → SymbolType → GivenValue → List ℕ
value_text is_raw kind given = elim given [ GivenTruth t ↦ tri_text t | GivenText text ↦ text_in_config is_raw kind text | Member m ↦ [] ]

-- The warning K7, K8, K9 or K16 of a line, if it is reported; or K10, if the symbol already has a value.
abbrev pub effect_warning : Bool → TreeFacts → Places → Effect → Option Warning
effect_warning asked tree places e =
    elim e [ Silent ↦ None | Warns w ↦ if is_reported asked w then Some w else None | Assigns s given ↦ if is_some (place_at places (SymbolPlace s.0)) then Some (SetAgain (name tree s)) else None ]

-- The line of a warning. K15: a line gives the symbol another value than an earlier line, if that line is known.
abbrev pub located_warning_line : List ℕ → ℕ → Warning → List ℕ
located_warning_line stream number w = located_warning stream number w ++ codes "\n"

abbrev pub change_text : Bool → StreamLocation → List ℕ → SymbolType → Option GivenValue → Option StreamLocation → GivenValue → List ℕ
change_text is_raw at called kind (Some old) (Some from) given =
    if same_given old given then []
    else located_warning_line at.stream at.number (Changed called (value_text is_raw kind old) from.stream from.number (value_text is_raw kind given))
change_text is_raw at called kind _ _ given = []

-- What a reading gives: the user's input, the lines of diagnostics, and the line that stopped it because it is too long.
pub record ReadResult : Type 0 where
  pub input : UserInput
  pub warned : List ℕ
  pub stopped : Option StreamLocation

module _ (tree : TreeFacts) (notation : Notation) where
  -- What a line says and does. A carriage return directly before the line feed belongs to the line's end.
  abbrev pub line_meaning : Line → LineMeaning
  line_meaning l = meaning_of notation.prefix (if l.ended then strip_carriage_return l.bytes else l.bytes)

  unfoldable pub effect : Line → Effect
  effect l = effect_of notation.is_raw tree (line_meaning l)

  -- The values after these lines, and for each symbol the line that gave its value last.
  abbrev pub places_after : Places → List Line → Places
  places_after places lines = places_given tree places
      (filter_map (λ l. elim (effect l) [ Assigns s given ↦ Some (record { symbol = s; given = given }) | _ ↦ None ]) lines)

  unfoldable pub lines_after : List (Option StreamLocation) → List Line → List (Option StreamLocation)
  lines_after old lines = each_from (λ i last. last_or last (filter_map (λ l.
      elim (effect l) [ Assigns s given ↦ if s.0 == i then Some (stream_location l) else None | _ ↦ None ]) lines)) 0 old

  -- For each symbol the last line whose value was not allowed (K8).
  unfoldable pub refused_after : List (Option RefusedLine) → List Line → List (Option RefusedLine)
  refused_after old lines = each_from (λ i last. last_or last (filter_map (λ l.
      elim (not_allowed tree (effect l)) [
        | Some s ↦ if s.0 == i then Some (record { at = stream_location l; value = set_text (line_meaning l) }) else None
        | None ↦ None
      ]) lines)) 0 old

  -- The texts of these lines that are gone and of this kind; all gone lines, if `old` are those before these lines.
  abbrev pub gone_text : (LineMeaning → Bool) → List Line → List ℕ
  gone_text is_kind lines = flat_map (λ l. if is_gone (effect l) && is_kind (line_meaning l) then said_line notation.prefix (line_meaning l) else []) lines

  unfoldable pub gone_after : Option (List ℕ × List ℕ) → List Line → Option (List ℕ × List ℕ)
  gone_after old lines = option_map (λ told. (told.0 ++ gone_text is_on lines, told.1 ++ gone_text (λ m. not (is_on m)) lines)) old

  -- The lines that are not taken as written. Each is judged with the values that the lines before it give.
  unfoldable pub untaken_line : Bool → Places → Line → List Line
  untaken_line asked places l = if is_taken asked places (effect l) then [] else l ∷ []

  unfoldable pub untaken : Bool → Places → List Line → List Line
  untaken asked places lines = flat_map (λ (i, l). untaken_line asked (places_after places (take i lines)) l) (enumerate_from 0 lines)

  -- The user's input after these lines.
  abbrev pub input_after : UserInput → List Line → UserInput
  input_after input lines = record {
    places = places_after input.places lines;
    lines = lines_after input.lines lines;
    refused = refused_after input.refused lines;
    all_taken = input.all_taken && (length (untaken input.asks_unset input.places lines) == 0);
    gone = gone_after input.gone lines;
    asks_unset = input.asks_unset;
    lead = input.lead;
  }

  -- The diagnostics of one line and of all lines. Each is judged with the input that the lines before it give.
  unfoldable pub warning : UserInput → Line → List ℕ
  warning input l =
      elim (effect_warning input.asks_unset tree input.places (effect l)) [ None ↦ [] | Some w ↦ located_warning_line l.stream l.number w ]
      ++ elim (effect l) [
        | Assigns s given ↦ change_text notation.is_raw (stream_location l) (name tree s)
            (type_in (facts tree s)) (place_at input.places (SymbolPlace s.0)) (plain_line input input.lines s) given
        | _ ↦ []
      ]

  unfoldable pub warnings : UserInput → List Line → List ℕ
  warnings input lines = flat_map (λ (i, l). warning (input_after input (take i lines)) l) (enumerate_from 0 lines)

  -- What reading these lines gives, from this input on. Only the lines before the first that is too long count.
  unfoldable pub reading : UserInput → List Line → ReadResult
  reading input lines = let counted = take_while is_within lines in record {
    input = input_after input counted;
    warned = warnings input counted;
    stopped = option_map stream_location (find (λ l. not (is_within l)) lines);
  }

-- What reading these input files gives, from this input on.
abbrev pub reading_of : TreeFacts → Notation → UserInput → List Stream → ReadResult
reading_of tree notation input streams = reading tree notation input (lines_of streams)
