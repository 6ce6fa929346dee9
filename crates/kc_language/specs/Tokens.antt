-- Trusted: 3. Tokens: how a logical line is cut into words, quoted texts and operators, and where it cannot be cut.
-- Our own; the operators are those of the kernel's kconfig-language document ("Menu dependencies"). `IsCutIn` at the end is the rule.
use Rattle.std.specs.{Char.{is_ascii_alphanumeric}, List.{list_any}, Prelude.{All, Bool, IsTrue, List, None, Option, Some, [], codes, drop, false, if◌then◌else◌, length, not, slice_index, take, true, ℕ, ◌&&◌, ◌++◌, ◌<◌, ◌==◌, ◌||◌, ◌∷◌, ◌≡◌, ◌≢◌, ◌≤◌, ◌⊎◌}}
use Rattle.kc_language.specs.{Text.{byte}, declared.{tokens.Op.{Op, TheVariants.{And, Eq, Ge, Gt, LParen, Le, Lt, Ne, Not, Or, RParen}}, tokens.TextFault.TextFault}}

-- The blanks are space and tab. The bytes of words are the ASCII letters and digits and four others. The operators are six relations and five others.
abbrev pub is_blank : ℕ → Bool
is_blank b = b == byte " " || b == byte "\t"

abbrev pub is_word_byte : ℕ → Bool
is_word_byte b = is_ascii_alphanumeric b || b == byte "_" || b == byte "-" || b == byte "/" || b == byte "."

abbrev pub relation_text : Op → List ℕ
relation_text = elim [ Eq ↦ codes "=" | Ne ↦ codes "!=" | Lt ↦ codes "<" | Gt ↦ codes ">" | Le ↦ codes "<=" | Ge ↦ codes ">=" | _ ↦ [] ]

abbrev pub op_text : Op → List ℕ
op_text = elim [ Not ↦ codes "!" | And ↦ codes "&&" | Or ↦ codes "||" | LParen ↦ codes "(" | RParen ↦ codes ")" | relation ↦ relation_text relation ]

-- The text between two quotes q: each byte is part of a pair of a `\` and any byte after it, or is neither `\` nor q.
pub data IsQuotedBody (q : ℕ) : List ℕ → Type 0 where
  nothing : IsQuotedBody q []
  plain : {b : ℕ} {bs : List ℕ} → b ≢ q → b ≢ byte "\\" → IsQuotedBody q bs → IsQuotedBody q (b ∷ bs)
  escaped : {c : ℕ} {bs : List ℕ} → IsQuotedBody q bs → IsQuotedBody q (byte "\\" ∷ c ∷ bs)

-- A token: a word, the text between the quotes of a quoted text, or an operator.
pub data Lexeme : Type 0 where
  AWord AQuoted : List ℕ → Lexeme
  AnOp : Op → Lexeme

-- The whole text spells the token.
abbrev pub Spells : List ℕ → Lexeme → Type 0
Spells text (AWord w) = (text ≡ w) × (0 < length w) × All (λ b. IsTrue (is_word_byte b)) w
Spells text (AQuoted t) = (q : ℕ) × ((q ≡ byte "\"") ⊎ (q ≡ byte "'")) × IsQuotedBody q t × (text ≡ q ∷ t ++ q ∷ [])
Spells text (AnOp o) = text ≡ op_text o

-- The first n bytes spell the token, and no longer prefix spells any token.
pub record IsLongest (rest : List ℕ) (n : ℕ) (x : Lexeme) : Type 0 where
  pub fits : n ≤ length rest
  pub spelled : Spells (take n rest) x
  pub longest : (m : ℕ) (y : Lexeme) → m ≤ length rest → Spells (take m rest) y → m ≤ n

-- A macro is a `$`, or a quoted text without an end that holds a `$`. It has its own error. Anything else that begins no token is a bad token.
abbrev pub holds_dollar : List ℕ → Bool
holds_dollar = list_any (λ b. b == byte "$")

abbrev pub IsMacro : List ℕ → Type 0
IsMacro rest = let q : ℕ = slice_index rest 0 in (q ≡ byte "$") ⊎ (((q ≡ byte "\"") ⊎ (q ≡ byte "'")) × (holds_dollar (drop 1 rest) ≡ true))

-- The line cannot be cut here: this is not its end (or a comment), not a blank and not a token. `fault` is the reason.
pub record CannotBeCut (rest : List ℕ) (fault : TextFault) : Type 0 where
  pub not_end : (length rest ≡ 0) ⊎ (slice_index rest 0 ≡ byte "#") → ⊥
  pub not_blank : IsTrue (is_blank (slice_index rest 0)) → ⊥
  pub no_token : (n : ℕ) (x : Lexeme) → n ≤ length rest → Spells (take n rest) x → ⊥
  pub reason : elim fault as (λ _. Type 0) [ TextFault.Macro ↦ IsMacro rest | TextFault.BadToken ↦ (IsMacro rest → ⊥) | _ ↦ ⊥ ]

-- A line is cut from left to right, up to its end or the first position that cannot be cut. Blanks are skipped. Elsewhere the longest token is taken.
pub data IsCut : List ℕ → List Lexeme → Option TextFault → Type 0 where
  ended : {rest : List ℕ} → (length rest ≡ 0) ⊎ (slice_index rest 0 ≡ byte "#") → IsCut rest [] None
  stuck : {rest : List ℕ} {fault : TextFault} → CannotBeCut rest fault → IsCut rest [] (Some fault)
  skipped : {rest : List ℕ} {ts : List Lexeme} {out : Option TextFault} → IsTrue (is_blank (slice_index rest 0)) → IsCut (drop 1 rest) ts out → IsCut rest ts out
  taken : {rest : List ℕ} {n : ℕ} {x : Lexeme} {ts : List Lexeme} {out : Option TextFault} → IsLongest rest n x → IsCut (drop n rest) ts out → IsCut rest (x ∷ ts) out

-- In a flat file a `$` in quotes is a byte like any other. In any other file it is a macro, which is reported instead of any other fault of the line.
abbrev pub is_macro : Lexeme → Bool
is_macro x = elim x [ AQuoted t ↦ holds_dollar t | _ ↦ false ]

pub record IsCutIn (flat : Bool) (line : List ℕ) (ts : List Lexeme) (out : Option TextFault) : Type 0 where
  pub stop : Option TextFault
  pub cut : IsCut line ts stop
  pub out_is : out ≡ (if not flat && list_any is_macro ts then Some TextFault.Macro else stop)
