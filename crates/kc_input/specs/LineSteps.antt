-- For proofs: How the code processes one line.
use Rattle.std.specs.Prelude.{Bool, List, None, Option, Some, [], false, if◌then◌else◌, option_map, slice_set, true, ℕ, ◌&&◌, ◌++◌, ◌∷◌}
use Rattle.kc_language.specs.{ConfigFile.{Assigns, Effect, LineMeaning, Notation, RefusedLine, Silent, StreamLocation, UserInput, Warns, effect_of, is_gone, is_on, is_reported, is_taken, not_allowed, places_given, said_line, set_text}, Symbols.TreeFacts, declared.expressions.SymId.SymId}

-- puts the member in its choice's place, if it becomes y
abbrev pub with_member : Bool → Option ℕ → SymId → List (Option SymId) → List (Option SymId)
with_member false choice s choices = choices
with_member true None s choices = choices
with_member true (Some c) s choices = slice_set choices c (Some s)

-- the input after a line of this effect, without the lists of gone lines and of lines whose value was not allowed
abbrev pub input_by : TreeFacts → UserInput → StreamLocation → Effect → UserInput
input_by tree input at Silent = input
input_by tree input at (Warns line_warning) = record input { all_taken = if is_reported input.asks_unset line_warning then false else input.all_taken }
input_by tree input at (Assigns s given) = record {
  places = places_given tree input.places (record { symbol = s; given = given } ∷ []);
  lines = slice_set input.lines s.0 (Some at);
  refused = input.refused;
  all_taken = input.all_taken && is_taken input.asks_unset input.places (Assigns s given);
  gone = input.gone;
  asks_unset = input.asks_unset;
  lead = input.lead;
}

-- the texts of gone lines with one more; and after a line of this meaning and effect
abbrev pub with_line : Notation → LineMeaning → List ℕ × List ℕ → List ℕ × List ℕ
with_line prefix said told = if is_on said then (told.0 ++ said_line prefix.prefix said, told.1) else (told.0, told.1 ++ said_line prefix.prefix said)

abbrev pub gone_by : Notation → LineMeaning → Effect → Option (List ℕ × List ℕ) → Option (List ℕ × List ℕ)
gone_by prefix said e gone = if is_gone e then option_map (with_line prefix said) gone else gone

-- the lines with a disallowed value, after a line with a disallowed value for this symbol, or after any other line
abbrev pub refused_by : RefusedLine → Option SymId → List (Option RefusedLine) → List (Option RefusedLine)
refused_by line None refused = refused
refused_by line (Some s) refused = slice_set refused s.0 (Some line)

-- the input after a line of this meaning and effect; and after a line of this meaning
abbrev pub input_left : TreeFacts → Notation → UserInput → StreamLocation → LineMeaning → Effect → UserInput
input_left tree prefix input at said e =
    record (input_by tree input at e) {
      refused = refused_by (record { at = at; value = set_text said }) (not_allowed tree e) input.refused;
      gone = gone_by prefix said e input.gone;
    }

abbrev pub input_with : TreeFacts → Notation → UserInput → StreamLocation → LineMeaning → UserInput
input_with tree prefix input at said = input_left tree prefix input at said (effect_of prefix.is_raw tree said)
