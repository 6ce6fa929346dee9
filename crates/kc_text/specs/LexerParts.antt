-- For proofs: What the parts of the lexer find: plain bytes, operators, and why a quoted text is refused.
use Rattle.std.specs.Prelude.{Bool, IsTrue, List, false, if◌then◌else◌, length, not, slice_index, take, true, ℕ, ◌<◌, ◌==◌, ◌||◌, ◌≡◌, ◌≢◌, ◌≤◌}
use Rattle.kc_language.specs.{Text.byte, Tokens.{IsQuotedBody, holds_dollar, op_text}, declared.tokens.{Op.Op, TextFault.TextFault}}
use Rattle.kc_language.specs.declared.tokens.TextFault.TheVariants as faults
use Rattle.kc_text.specs.PartsOfTokens.{EndsQuoted}

-- any byte except `"`, `'`, `$` and `\`
abbrev pub is_plain : ℕ → Bool
is_plain b = not (b == byte "\"" || b == byte "'" || b == byte "$" || b == byte "\\")

-- each byte from i up to j is plain
abbrev pub ArePlain : List ℕ → ℕ → ℕ → Type 0
ArePlain text i j = (k : ℕ) → i ≤ k → k < j → IsTrue (is_plain (slice_index text k))

-- the first n bytes spell the operator, and no longer prefix spells one
pub record IsLongestOp (rest : List ℕ) (n : ℕ) (o : Op) : Type 0 where
  pub fits : n ≤ length rest
  pub spelled : take n rest ≡ op_text o
  pub longest : (m : ℕ) (p : Op) → m ≤ length rest → take m rest ≡ op_text p → m ≤ n

-- no prefix spells an operator
abbrev pub HasNoOp : List ℕ → Type 0
HasNoOp rest = (m : ℕ) (p : Op) → m ≤ length rest → take m rest ≡ op_text p → ⊥

-- The quoted text after the quote q ends after n bytes.
pub record IsQuotedLen (q : ℕ) (body : List ℕ) (n : ℕ) : Type 0 where
  pub within : n < length body
  pub ends : slice_index body n ≡ q
  pub inside : IsQuotedBody q (take n body)

-- The quoted text after the quote q has no end. `IsQuoteFault`: it holds a `$`, or none.
abbrev pub HasNoEnd : ℕ → List ℕ → Type 0
HasNoEnd q body = (inside : List ℕ) → EndsQuoted q body inside → ⊥

abbrev pub IsQuoteFault : ℕ → List ℕ → TextFault → Type 0
IsQuoteFault q body faults.Macro = HasNoEnd q body × (holds_dollar body ≡ true)
IsQuoteFault q body faults.BadToken = HasNoEnd q body × (holds_dollar body ≡ false)
IsQuoteFault q body (faults.LineTooLong n) = ⊥
IsQuoteFault q body faults.Memory = ⊥

-- the error of a quoted text without an end, with or without a `$`
abbrev pub quote_fault : Bool → TextFault
quote_fault dollar = if dollar then faults.Macro else faults.BadToken
