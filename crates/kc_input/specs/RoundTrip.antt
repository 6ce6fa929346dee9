-- Trusted: Reading a written line again.
use Rattle.std.specs.Prelude.{All, Bool, List, Some, codes, length, true, ℕ, ◌++◌, ◌+◌, ◌<◌, ◌∷◌, ◌≡◌, ◌≤◌}
use Rattle.kc_language.specs.{ConfigFile.{Set, Unset, is_prefix, string_text}, Expressions.{SymbolValue, TextValue, Truth, is_name_byte}, Text.{byte, escape, longest_name, longest_prefix, longest_value}, Texts.{EndsPlainly, config_file_line}, Values.GivenText}
use Rattle.kc_language.specs.declared.expressions.SymbolType.TheVariants as symbol_type
use Rattle.kc_input.specs.PartsOfConfigFile.{ended_meaning, line_value}

-- at least one byte, and only bytes allowed in a name
pub record IsName (name : List ℕ) : Type 0 where
  pub some : 0 < length name
  pub bytes : All (λ b. is_name_byte b ≡ true) name

-- `# CONFIG_NAME is not set` unsets NAME, under any prefix
abbrev pub UnsetLineReadAgain : Type 0
UnsetLineReadAgain =
    (prefix name : List ℕ) → IsName name → ended_meaning prefix ((codes "# " ++ (prefix ++ name)) ++ codes " is not set") ≡ Unset name

-- `CONFIG_NAME=value` sets NAME to the value, under any prefix, if the value does not end in a blank or a carriage return
abbrev pub SetLineReadAgain : Type 0
SetLineReadAgain =
    (prefix name value : List ℕ) → is_prefix prefix ≡ true → IsName name → EndsPlainly value →
    ended_meaning prefix ((prefix ++ name) ++ byte "=" ∷ value) ≡ Set name value

-- a string in quotes, raw or escaped, is read as the same text
abbrev pub StringReadAgain : Type 0
StringReadAgain =
    (is_raw : Bool) (text : List ℕ) → length (escape text) + 2 ≤ longest_value →
    line_value is_raw symbol_type.Str (string_text is_raw text) ≡ Some (GivenText text)

-- the text in a line is not longer than a value may be
abbrev pub IsShortText : SymbolValue → Type 0
IsShortText (Truth t) = Unit {0}
IsShortText (TextValue symbol_type.Undefined text) = Unit {0}
IsShortText (TextValue symbol_type.Bool text) = Unit {0}
IsShortText (TextValue symbol_type.Tristate text) = Unit {0}
IsShortText (TextValue symbol_type.Str text) = length (escape text) ≤ longest_value
IsShortText (TextValue symbol_type.Int text) = length text ≤ longest_value
IsShortText (TextValue symbol_type.Hex text) = length text ≤ longest_value

-- a written line is at most as long as a prefix, a name and a value, with `=`, two quotes and the LF
abbrev pub WrittenLinesAreShort : Type 0
WrittenLinesAreShort =
    (is_raw : Bool) (prefix name : List ℕ) (known : SymbolValue) → length prefix ≤ longest_prefix → length name ≤ longest_name → IsShortText known →
    length (config_file_line is_raw (prefix ++ name) known) ≤ longest_prefix + longest_name + longest_value + 4
