-- Trusted: 1. Text: bytes, limits, escapes and numbers, all our own. A text is a list of bytes, and `byte "A"` is the one byte of `A`, 65.
use Rattle.std.specs.{Char.{is_digit}, List.{flat_map, list_all}, Prelude.{Bool, List, None, Option, Some, [], codes, drop, if◌then◌else◌, length, nat_lt, neg_ℤ, option_map, pos, slice_index, ℕ, ℤ, ◌&&◌, ◌++◌, ◌+◌, ◌==◌, ◌^◌, ◌||◌, ◌∷◌, ◌≡◌}, Str.Parse.{digits_value, starts_with_minus}}
use Prim.Native.String.{String}

abbrev pub byte : String → ℕ
byte text = slice_index (codes text) 0

-- The limits: the greatest number of each thing that is accepted.
abbrev pub longest_line : ℕ
longest_line = 8191  -- bytes of a logical line of a Kconfig file

abbrev pub longest_name : ℕ
longest_name = 255  -- bytes of the name of a defined symbol

abbrev pub most_open : ℕ
most_open = 64  -- levels of `!` and `(` in an expression, blocks, and Kconfig files, that are open at once

abbrev pub most_symbols : ℕ
most_symbols = 65535  -- defined symbols

abbrev pub most_lines : ℕ
most_lines = 1000000  -- physical lines of all Kconfig files together

abbrev pub longest_input_line : ℕ
longest_input_line = 65535  -- bytes before the line feed of a line of an input file

abbrev pub longest_value : ℕ
longest_value = 65000  -- bytes right of the `=` of a line of an input file

abbrev pub longest_prefix : ℕ
longest_prefix = 64  -- bytes of a prefix, such as `CONFIG_`

-- Escaping puts a `\` before each `"` and each `\`. Unescaping reads a `\` and the byte after it as that byte; a `\` at the end stays.
abbrev pub escape : List ℕ → List ℕ
escape = flat_map (λ b. if b == byte "\"" || b == byte "\\" then byte "\\" ∷ b ∷ [] else b ∷ [])

abbrev pub unescape : List ℕ → List ℕ
unescape (b ∷ c ∷ bs) = if b == byte "\\" then c ∷ unescape bs else b ∷ unescape (c ∷ bs)
unescape bs = bs

-- The number that a text spells: the text is one or more digits of the radix, and the number is below the limit.
unfoldable pub natural_of : ℕ → ℕ → List ℕ → Option ℕ
natural_of radix limit text = if nat_lt 0 (length text) && list_all (λ c. is_digit c radix) text && nat_lt (digits_value radix text) limit
    then Some (digits_value radix text) else None

-- An int is an optional `-` and decimal digits, from -2^63 to 2^63 - 1.
abbrev pub int_of : List ℕ → Option ℤ
int_of text = if starts_with_minus text then option_map (λ n. neg_ℤ (pos n)) (natural_of 10 (2 ^ 63 + 1) (drop 1 text))
    else option_map pos (natural_of 10 (2 ^ 63) text)

-- A hex is an optional `0x` or `0X` and hexadecimal digits, from 0 to 2^64 - 1.
abbrev pub has_hex_prefix : List ℕ → Bool
has_hex_prefix text = slice_index text 0 == byte "0" && (slice_index text 1 == byte "x" || slice_index text 1 == byte "X")

abbrev pub hex_of : List ℕ → Option ℤ
hex_of text = option_map pos (natural_of 16 (2 ^ 64) (if has_hex_prefix text then drop 2 text else text))

-- `BeginsWith`: the text begins with `front` and may end there. `GoesBeyond`: at least one byte follows `front`.
abbrev pub BeginsWith : List ℕ → List ℕ → Type 0
BeginsWith text front = (rest : List ℕ) × (text ≡ front ++ rest)

abbrev pub GoesBeyond : List ℕ → List ℕ → Type 0
GoesBeyond text front = (b : ℕ) × (rest : List ℕ) × (text ≡ front ++ b ∷ rest)
