-- Trusted: The facts at the start of hints (our own).
use Rattle.std.specs.{Borrow.Bor, Char.is_ascii_digit, List.{ends_with, flat_map, slice_split, starts_with, suffix_len}, Str.Lines.strip_carriage_return, Prelude.{Bool, List, None, Option, Some, [], codes, decimal, drop, false, filter, find, if◌then◌else◌, length, map, min, nat_eq, nat_lt, option_and_then, option_map, position, slice_get, take, true, ℕ, ◌&&◌, ◌++◌, ◌+◌, ◌-◌, ◌*◌, ◌==◌, ◌^◌, ◌||◌, ◌∷◌}}
use Rattle.kc_language.specs.{ConfigFile.{LineMeaning, Set, meaning_of, symbol_named, without_prefix, without_suffix}, Expansion.{defined_name, is_attribute}, Expressions.{same_name, symbol}, Statements.{Located, Numbered, RangeLine}, Symbols.{TreeFacts, is_symbol_of}, Text.{byte, longest_value}, Values.{facts, type_in}, declared.expressions.{SymId.SymId, SymbolType.{SymbolType, TheVariants.{Bool as IsBool, Hex, Int, Str, Tristate, Undefined}}}}
use Rattle.kc_entries.specs.Entries.{lines_in}
use Rattle.kc_display.specs.{Difference.lines, Hints.{first_code, shown_line}, declared.{code.Code.{Code, TheVariants.{UnknownSymbol, UnknownName, BadValue, OutsideRange, BadLine, BadToken, Syntax, Misplaced}}, display.Showing.Showing}}
use Rattle.kc_hints.specs.Forms.{form_of}
use Rattle.kc_hints.specs.Near.{mentioned_text, typed_text}
use Rattle.kc_hints.specs.declared.facts.{Facts.Facts, Input.Input, TreeLines.TreeLines}

-- The n-th part of a text that is separated by these bytes, counted from 0.
abbrev pub part_at : List ℕ → ℕ → ℕ → Option (List ℕ)
part_at text separator n = slice_get (slice_split (λ b. b == separator) text) n

-- ---- The location at the start of a diagnostic
-- `FILE:LINE: `: FILE is all before the last `:`, and LINE the number in the digits after it, limited to 2^64 - 1.
abbrev pub number_from : ℕ → List ℕ → ℕ
number_from n [] = n
number_from n (b ∷ bs) = number_from (min (n * 10 + (b - byte "0")) (2 ^ 64 - 1)) bs

abbrev pub digits_start : List ℕ → ℕ
digits_start text = length text - suffix_len is_ascii_digit text

abbrev pub place_in : List ℕ → Option (List ℕ × ℕ)
place_in before = option_and_then (λ front.
    option_map (λ file. (file, number_from 0 (drop (digits_start front) front))) (without_suffix (codes ":") (take (digits_start front) front)))
    (without_suffix (codes ": ") before)

-- It names a file: alone, or after a configuration, a `:` and a blank. It means the first file of this name.
abbrev pub names_file : List ℕ → List ℕ → Bool
names_file file name = elim (without_suffix name file) [ None ↦ false | Some front ↦ length front == 0 || ends_with nat_eq front (codes ": ") ]

abbrev pub input_at : List Input → List ℕ → Option (Input × ℕ)
input_at inputs before =
    option_and_then (λ place. option_map (λ input. (input, place.1)) (find (λ input. names_file place.0 input.name.items) inputs)) (place_in before)

-- ---- Byte order marks
-- The location is the first line of a file that starts with a UTF-8 byte order mark.
abbrev pub mark : List ℕ
mark = 239 ∷ 187 ∷ 191 ∷ []

abbrev pub is_marked : List Input → List ℕ → Bool
is_marked inputs before = elim (input_at inputs before) [ None ↦ false | Some found ↦ found.1 == 1 && starts_with nat_eq found.0.bytes.items mark ]

-- ---- Values
-- The value of the line at the location.
abbrev pub value_of : LineMeaning → Option (List ℕ)
value_of meaning = elim meaning [ Set called text ↦ Some text | _ ↦ None ]

abbrev pub line_at : List ℕ → ℕ → Option (List ℕ)
line_at bytes number = part_at bytes (byte "\n") (number - 1)

abbrev pub value_at : List ℕ → List Input → List ℕ → Option (List ℕ)
value_at prefix inputs before = option_and_then (λ found.
    option_and_then (λ line. value_of (meaning_of prefix (strip_carriage_return line))) (line_at found.0.bytes.items found.1)) (input_at inputs before)

-- The text about it: a long value is cut, and one that is too long is not shown.
abbrev pub type_word : SymbolType → List ℕ
type_word Undefined = codes "symbol"
type_word IsBool = codes "bool"
type_word Tristate = codes "tristate"
type_word Str = codes "string"
type_word Int = codes "int"
type_word Hex = codes "hex"

abbrev pub most_shown : ℕ
most_shown = 40

abbrev pub shown_value : List ℕ → List ℕ
shown_value value = if length value == 0 then codes "an empty value" else if nat_lt most_shown (length value) then take most_shown value ++ codes ".." else value

abbrev pub value_text : SymbolType → List ℕ → List ℕ → List ℕ
value_text kind called value = if nat_lt longest_value (length value) then codes "the value has more than 65000 bytes; "
    else shown_value value ++ codes " is not a value of the " ++ type_word kind ++ codes " " ++ called ++ codes "; "

-- ---- Ranges
-- The range lines of a symbol: those in the entries of its `config` lines. `own`: the lines belong to such an entry.
abbrev pub is_range : Numbered → Bool
is_range s = elim s [ RangeLine low high when ↦ true | _ ↦ false ]

abbrev pub range_lines : SymId → Bool → List (Located Numbered) → List (Located Numbered)
range_lines s own [] = []
range_lines s own (l ∷ ls) = if is_attribute l.statement then (if own && is_range l.statement then l ∷ [] else []) ++ range_lines s own ls
    else range_lines s (is_symbol_of s (defined_name l.statement)) ls

abbrev pub line_place : Located Numbered → List ℕ × ℕ
line_place l = (l.file, l.line)

abbrev pub range_places : SymId → List (Located Numbered) → List (List ℕ × ℕ)
range_places s ls = map line_place (range_lines s false ls)

-- The text about them: the locations of the first five.
abbrev pub most_places : ℕ
most_places = 5

abbrev pub place_text : List ℕ × ℕ → List ℕ
place_text place = place.0 ++ codes ":" ++ decimal place.1

abbrev pub joined : List (List ℕ × ℕ) → List ℕ
joined [] = []
joined (place ∷ places) = place_text place ++ (if length places == 0 then [] else codes ", ") ++ joined places

abbrev pub places_text : List (List ℕ × ℕ) → List ℕ
places_text places = if length places == 0 then [] else (if length places == 1 then codes "its range stands at " else codes "its ranges stand at ")
    ++ joined (take most_places places) ++ (if nat_lt most_places (length places) then codes ".." else []) ++ codes "; "

-- ---- The fact of a diagnostic
-- `before` is the text before its code, and `said` is the rest of its line. The names in K12 and E24: a value has no blank, and no name of a symbol a
-- `;`.
abbrev pub name_unknown : List ℕ → Option (List ℕ)
name_unknown said = without_prefix (codes "warning K7: unknown symbol ") said

abbrev pub name_given : List ℕ → Option (List ℕ)
name_given said = without_prefix (codes "warning K8: value not allowed for ") said

abbrev pub name_outside : List ℕ → Option (List ℕ)
name_outside said = option_and_then (λ text. part_at text (byte " ") 2) (without_prefix (codes "warning K12: user value ") said)

abbrev pub name_asked : List ℕ → Option (List ℕ)
name_asked said = option_and_then (λ text. part_at text (byte ";") 0) (without_prefix (codes "error E24: no symbol has the name ") said)

-- The text, or an empty one if there is none.
abbrev pub text_or_none : Option (List ℕ) → List ℕ
text_or_none text = elim text [ None ↦ [] | Some bytes ↦ bytes ]

abbrev pub marked_text : List ℕ
marked_text = codes "the file begins with a UTF-8 byte order mark, which is no part of the language; "

-- Similar names; the value that a symbol of the tree does not accept; the ranges of a symbol; that the file starts with a byte order mark.
abbrev pub near_unknown : Facts → List ℕ → List ℕ
near_unknown known said = text_or_none (option_and_then (λ (tree : Bor TreeFacts). option_map (typed_text tree.now known.prefix.now) (name_unknown said)) known.tree)

abbrev pub near_asked : Facts → List ℕ → List ℕ
near_asked known said = text_or_none (option_and_then (λ (tree : Bor TreeFacts). option_map (mentioned_text tree.now known.prefix.now) (name_asked said)) known.tree)

abbrev pub refused_value : TreeFacts → List ℕ → List ℕ → Option (List ℕ)
refused_value tree called value = option_map (λ s. value_text (type_in (facts tree s)) called value) (symbol_named tree called)

abbrev pub value_fact : Facts → List ℕ → List ℕ → List ℕ
value_fact known before said = text_or_none (option_and_then (λ (tree : Bor TreeFacts). option_and_then (λ called.
    option_and_then (refused_value tree.now called) (value_at known.prefix.now known.inputs.now before)) (name_given said)) known.tree)

abbrev pub ranges_of : TreeLines → List ℕ → Option (List ℕ)
ranges_of lines called =
    option_map (λ s. places_text (range_places s (lines_in lines.entries.now))) (option_map symbol (position (same_name called) lines.names.now))

abbrev pub ranges_fact : Facts → List ℕ → List ℕ
ranges_fact known said = text_or_none (option_and_then (λ lines. option_and_then (ranges_of lines) (name_outside said)) known.lines)

abbrev pub mark_fact : Facts → List ℕ → List ℕ
mark_fact known before = if is_marked known.inputs.now before then marked_text else []

-- The text about the line at the location depends on its first word: the required form of the line (E8), and where it may be (E10).
abbrev pub line_form : List Input → List ℕ → Option (List ℕ × List ℕ)
line_form inputs before = option_and_then (λ found. option_and_then form_of (line_at found.0.bytes.items found.1)) (input_at inputs before)

abbrev pub form_text : List ℕ × List ℕ → List ℕ
form_text form = codes "its form is " ++ form.0 ++ codes "; "

abbrev pub position_text : List ℕ × List ℕ → List ℕ
position_text form = form.0 ++ codes " stands " ++ form.1 ++ codes "; "

abbrev pub form_fact : Facts → List ℕ → List ℕ
form_fact known before = text_or_none (option_map form_text (line_form known.inputs.now before))

abbrev pub position_fact : Facts → List ℕ → List ℕ
position_fact known before = text_or_none (option_map position_text (line_form known.inputs.now before))

abbrev pub fact_for : Facts → Code → List ℕ → List ℕ → List ℕ
fact_for known UnknownSymbol before said = near_unknown known said
fact_for known UnknownName before said = near_asked known said
fact_for known BadValue before said = value_fact known before said
fact_for known OutsideRange before said = ranges_fact known said
fact_for known BadLine before said = mark_fact known before
fact_for known BadToken before said = mark_fact known before
fact_for known Syntax before said = form_fact known before
fact_for known Misplaced before said = position_fact known before
fact_for known _ before said = []

-- ---- Diagnostics with such hints
abbrev pub without_end : List ℕ → List ℕ
without_end line = elim (without_suffix (codes "\n") line) [ None ↦ line | Some text ↦ text ]

abbrev pub fact_of : Facts → List ℕ → List ℕ
fact_of known line = elim (first_code line) [ None ↦ [] | Some found ↦ fact_for known found.1 (take found.0 line) (without_end (drop found.0 line)) ]

abbrev pub hinted_line : Showing → List ℕ → Facts → List ℕ → List ℕ
hinted_line showing reason known line = shown_line showing reason (fact_of known line) line

abbrev pub hinted_text : Showing → List ℕ → Facts → List ℕ → List ℕ
hinted_text showing reason known text = flat_map (hinted_line showing reason known) (lines text)

-- ---- Diagnostics that wait
-- A hint may start with a fact, which needs the tree or a file.
abbrev pub is_first : List ℕ → Bool
is_first before = elim (place_in before) [ None ↦ false | Some place ↦ place.1 == 1 ]

abbrev pub may_wait : Code → List ℕ → Bool
may_wait UnknownSymbol before = true
may_wait UnknownName before = true
may_wait BadValue before = true
may_wait OutsideRange before = true
may_wait Syntax before = true
may_wait Misplaced before = true
may_wait BadLine before = is_first before
may_wait BadToken before = is_first before
may_wait _ before = false

abbrev pub may_have_fact : List ℕ → Bool
may_have_fact line = elim (first_code line) [ None ↦ false | Some found ↦ may_wait found.1 (take found.0 line) ]

-- The code for values outside their ranges (K12), whose hints need the lines of the tree.
abbrev pub is_outside_code : Code → Bool
is_outside_code OutsideRange = true
is_outside_code _ = false

abbrev pub is_outside : List ℕ → Bool
is_outside line = elim (first_code line) [ None ↦ false | Some found ↦ is_outside_code found.1 ]

-- The file of a refused line that a hint describes (E8, E10), or whose first line is refused because no token starts with one of its bytes (E5).
abbrev pub needs_line : Code → ℕ → Bool
needs_line Syntax number = true
needs_line Misplaced number = true
needs_line BadToken number = number == 1
needs_line _ number = false

abbrev pub file_needed : Code → Option (List ℕ × ℕ) → Option (List ℕ)
file_needed code place = option_and_then (λ p. if needs_line code p.1 then Some p.0 else None) place

abbrev pub refused_file : List ℕ → Option (List ℕ)
refused_file line = option_and_then (λ found. file_needed found.1 (place_in (take found.0 line))) (first_code line)
