-- For proofs: Names for parts of the definitions of Texts.
use Rattle.std.specs.Prelude.{Bool, List, codes, ℕ, ◌++◌, ◌==◌, ◌||◌, ◌≡◌}
use Rattle.kc_text.specs.PartsOfLines.{HoldsNoLineFeed}
use Rattle.kc_language.specs.{Text.byte, Tokens.is_blank}

-- a blank or a carriage return
abbrev pub is_end_byte : ℕ → Bool
is_end_byte b = is_blank b || b == byte "\r"

-- one line, with its line feed
abbrev pub IsOneLine : List ℕ → Type 0
IsOneLine text = (body : List ℕ) × (text ≡ body ++ codes "\n") × HoldsNoLineFeed body
