-- For proofs: The results of the calls that read a line.
use Rattle.std.specs.{Borrow.Bor, Prelude.{Bool, Err, List, None, Ok, Option, Result, Some, [], drop, false, length, option_map, true, ℕ, ◌+◌, ◌<◌, ◌∷◌, ◌≡◌, ◌≢◌}}
use Rattle.kc_language.specs.{Expressions.{Atom, Disjunction, Form, Leaf, all_mentioned, leaf, names_in, names_in_atom}, Statements.{Cause, IsCondition, Named, StartsExpression, names_in_condition, names_in_statement, numbered}, Text.unescape, Tokens.Lexeme}
use Rattle.kc_expr.specs.{PartsOfExpressions.meaning_or, declared.parse.ExprFault.ExprFault}
use Rattle.kc_expr.specs.declared.parse.ExprFault.TheVariants as expr
use Rattle.kc_text.specs.{Lexemes.{lexeme, lexemes}, declared.tokens.Token.Token}
use Rattle.kc_language.specs.declared.diagnostics.Cause.TheVariants as cause
use Rattle.kc_entries.specs.{PartsOfStatements.{IsWhole, front}, StatementViews.{ForLater, statement_view}, declared.statement.Statement.Statement}
use Rattle.kc_diagnostics.specs.Causes.{shown_cause}
use Rattle.kc_language.specs.declared.diagnostics.Cause as declared

-- the tokens from a position on
abbrev pub lexemes_from : List Token → ℕ → List Lexeme
lexemes_from tokens at = lexemes (drop at tokens)

-- why a line is refused, with names borrowed from the line
abbrev pub LineFault : Type 0
LineFault = declared.Cause (Bor (List ℕ))

-- the cause of a line's fault
abbrev pub cause_of : LineFault → Cause
cause_of f = shown_cause f

-- if the fault is not out of memory, its cause satisfies P
abbrev pub IsFault : LineFault → (Cause → Type 0) → Type 0
IsFault f P = f ≢ cause.Memory → P (cause_of f)

-- the token at a position, if there is one
abbrev pub IsToken : Option Token → List Token → ℕ → Type 0
IsToken None tokens at = lexemes_from tokens at ≡ []
IsToken (Some t) tokens at = (at < length tokens) × (lexemes_from tokens at ≡ lexeme t ∷ lexemes_from tokens (at + 1))

-- why an expression is refused
abbrev pub expression_cause : ExprFault → Cause
expression_cause expr.Syntax = cause.Syntax
expression_cause expr.TooDeep = cause.TooDeep
expression_cause expr.Memory = cause.Memory

-- the text of these bytes, quoted or a word
abbrev pub unquoted_text : Bool → List ℕ → List ℕ
unquoted_text true t = unescape t
unquoted_text false t = t

-- a part that is one token was read, or refused
abbrev pub IsPart : {A B : Type 0} → Result B Cause → (A → B) → Result A LineFault → Type 0
IsPart part view (Ok a) = part ≡ Ok (view a)
IsPart part view (Err f) = IsFault f (λ c. part ≡ Err c)

-- the statement was made from x, whose names were added to the old ones
pub record IsMade (old names : List (List ℕ)) (s : Statement) (x : Named) : Type 0 where
  pub mentions : names ≡ all_mentioned old (names_in_statement x)
  pub form : ForLater names (λ number. statement_view s ≡ numbered number x)

-- the line's statement was read, or refused
abbrev pub IsRead : List (List ℕ) → List (List ℕ) → (Result Named Cause → Type 0) → Result Statement LineFault → Type 0
IsRead old names Reads (Ok s) = (x : Named) × Reads (Ok x) × IsMade old names s x
IsRead old names Reads (Err f) = IsFault f (λ c. Reads (Err c))

-- an expression and the position after it
pub record IsFront (condition : Bool) (old names : List (List ℕ)) (ts rest : List Lexeme) (e : Form) : Type 0 where
  pub tree : Disjunction
  pub starts : StartsExpression ts (front tree rest)
  pub mentions : names ≡ all_mentioned old (names_in tree)
  pub form : ForLater names (λ number. e ≡ meaning_or condition number tree)

-- an expression up to the end of the line
pub record IsWholeForm (old names : List (List ℕ)) (ts : List Lexeme) (e : Form) : Type 0 where
  pub tree : Disjunction
  pub whole : IsWhole ts tree
  pub mentions : names ≡ all_mentioned old (names_in tree)
  pub form : ForLater names (λ number. e ≡ meaning_or true number tree)

-- a condition up to the end of the line
pub record IsConditionForm (old names : List (List ℕ)) (ts : List Lexeme) (e : Option Form) : Type 0 where
  pub tree : Option Disjunction
  pub condition_is : IsCondition ts tree
  pub mentions : names ≡ all_mentioned old (names_in_condition tree)
  pub form : ForLater names (λ number. e ≡ option_map (meaning_or true number) tree)

-- the operand that was read
pub record IsOperand (old names : List (List ℕ)) (part : Result Atom Cause) (l : Leaf) : Type 0 where
  pub atom : Atom
  pub part_is : part ≡ Ok atom
  pub mentions : names ≡ all_mentioned old (names_in_atom atom)
  pub form : ForLater names (λ number. l ≡ leaf number atom)
