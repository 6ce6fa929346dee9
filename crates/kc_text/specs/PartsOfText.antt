-- Trusted: Parts of the definitions of Text, with names of their own.
use Rattle.std.specs.{Char.is_digit, List.list_all, Prelude.{Bool, List, [], drop, if◌then◌else◌, length, min, nat_lt, neg_ℤ, pos, ℕ, ℤ, ◌&&◌, ◌+◌, ◌-◌, ◌==◌, ◌^◌, ◌||◌, ◌∷◌}}
use Rattle.kc_language.specs.Text.{byte, has_hex_prefix, most_open}

-- levels of `!` and `(` that are open at once in an expression
abbrev pub most_levels : ℕ
most_levels = most_open

-- Kconfig files that are open at once
abbrev pub most_files : ℕ
most_files = most_open

-- blocks that are open at once
abbrev pub most_blocks : ℕ
most_blocks = most_open

-- A count of lines goes up by one, and stays at the greatest number of 64 bits.
abbrev pub one_more : ℕ → ℕ
one_more n = min (n + 1) (2 ^ 64 - 1)

-- the greatest number of 64 bits
abbrev pub last_count : ℕ
last_count = 2 ^ 64 - 1

-- a hex is below this
abbrev pub hex_limit : ℕ
hex_limit = 2 ^ 64

-- the bytes before which escaping puts a `\`: `"` and `\`
abbrev pub is_escaped : ℕ → Bool
is_escaped b = b == byte "\"" || b == byte "\\"

abbrev pub escape_byte : ℕ → List ℕ
escape_byte b = if is_escaped b then byte "\\" ∷ b ∷ [] else b ∷ []

abbrev pub all_digits : ℕ → List ℕ → Bool
all_digits radix ds = list_all (λ c. is_digit c radix) ds

-- one digit or more of this radix, and nothing else
abbrev pub is_numeral : ℕ → List ℕ → Bool
is_numeral radix ds = nat_lt 0 (length ds) && all_digits radix ds

abbrev pub negated : ℕ → ℤ
negated n = neg_ℤ (pos n)

abbrev pub without_hex_prefix : List ℕ → List ℕ
without_hex_prefix text = if has_hex_prefix text then drop 2 text else text
