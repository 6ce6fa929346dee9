-- For proofs: Parts of the definitions of Tokens, with names of their own.
use Rattle.std.specs.{List.list_any, Prelude.{Bool, IsTrue, List, length, not, slice_index, take, true, ℕ, ◌&&◌, ◌++◌, ◌∷◌, ◌≡◌, ◌≤◌, ◌⊎◌}}
use Rattle.kc_language.specs.{Text.byte, Tokens.{IsLongest, IsMacro, IsQuotedBody, Lexeme, Spells, is_blank, is_macro}, declared.tokens.TextFault.TextFault}

-- the quoted text at the start of `body` has this inside, and then the quote q
abbrev pub EndsQuoted : ℕ → List ℕ → List ℕ → Type 0
EndsQuoted q body inside = IsQuotedBody q inside × ((more : List ℕ) × (body ≡ inside ++ q ∷ more))

abbrev pub IsQuote : ℕ → Type 0
IsQuote q = (q ≡ byte "\"") ⊎ (q ≡ byte "'")

-- Nothing is left of the line, or only a comment.
abbrev pub IsEnd : List ℕ → Type 0
IsEnd rest = (length rest ≡ 0) ⊎ (slice_index rest 0 ≡ byte "#")

-- a blank is next
abbrev pub IsAtBlank : List ℕ → Type 0
IsAtBlank rest = IsTrue (is_blank (slice_index rest 0))

-- why no token is found here
abbrev pub IsReason : List ℕ → TextFault → Type 0
IsReason rest = elim [ TextFault.Macro ↦ IsMacro rest | TextFault.BadToken ↦ (IsMacro rest → ⊥) | _ ↦ ⊥ ]

-- no prefix spells a token
abbrev pub HasNoToken : List ℕ → Type 0
HasNoToken rest = (n : ℕ) (x : Lexeme) → n ≤ length rest → Spells (take n rest) x → ⊥

-- `is_refused`: the file is not flat, and the token is a quoted text that holds a `$`. `are_refused`: one of these tokens is such a token.
abbrev pub is_refused : Bool → Lexeme → Bool
is_refused flat x = not flat && is_macro x

abbrev pub are_refused : Bool → List Lexeme → Bool
are_refused flat ts = not flat && list_any is_macro ts

-- the next token is a macro
pub record IsMacroToken (flat : Bool) (rest : List ℕ) : Type 0 where
  pub count : ℕ
  pub token : Lexeme
  pub longest : IsLongest rest count token
  pub refused : is_refused flat token ≡ true

-- why the line is not cut further from here
abbrev pub IsStop : Bool → List ℕ → TextFault → Type 0
IsStop flat rest fault = (HasNoToken rest × IsReason rest fault) ⊎ (IsMacroToken flat rest × (fault ≡ TextFault.Macro))
