-- Trusted: Parts of the definitions of Lines, with names of their own.
use Rattle.std.specs.{List.list_all, Prelude.{All, Bool, List, None, Option, Some, false, if◌then◌else◌, length, min, take, true, ℕ, ◌-◌, ◌^◌, ◌≡◌}}
use Rattle.kc_language.specs.{Lines.{Physical, continues, is_line_feed}, Tokens.is_blank}

abbrev pub HoldsNoLineFeed : List ℕ → Type 0
HoldsNoLineFeed bytes = All (λ b. is_line_feed b ≡ false) bytes

-- Line numbers stay at the greatest number of 32 bits.
abbrev pub line_number : ℕ → ℕ
line_number n = min n (2 ^ 32 - 1)

-- what the line adds to its logical line: its text without the `\` that joins it
abbrev pub without_continuation : Physical → List ℕ
without_continuation l = if continues l then take (length l.text - 1) l.text else l.text

-- the line holds only blanks
abbrev pub is_blank_line : List ℕ → Bool
is_blank_line text = list_all is_blank text

abbrev pub ends_line : Option ℕ → Bool
ends_line None = true
ends_line (Some b) = is_line_feed b
