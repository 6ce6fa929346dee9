-- For proofs: The parts of a marker of a flat file.
use Rattle.std.specs.{Char.is_digit, Prelude.{All, List, codes, false, length, slice_index, take, true, ℕ, ◌++◌, ◌<◌, ◌≡◌, ◌≢◌, ◌≤◌}}
use Rattle.kc_language.specs.Text.{byte}
use Rattle.kc_text.specs.PartsOfText.{all_digits}

-- the first n bytes are decimal digits, and the byte after them is not
pub record IsDigitFront (text : List ℕ) (n : ℕ) : Type 0 where
  pub within : n ≤ length text
  pub digits : all_digits 10 (take n text) ≡ true
  pub stops : n < length text → is_digit (slice_index text n) 10 ≡ false

-- a blank and a name in double quotes; the name holds no double quote
abbrev pub IsQuotedName : List ℕ → List ℕ → Type 0
IsQuotedName text name = (text ≡ codes " \"" ++ name ++ codes "\"") × All (λ b. b ≢ byte "\"") name
