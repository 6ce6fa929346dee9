-- Trusted: The results of parsing.
use Rattle.std.specs.Prelude.{Bool, List, ℕ, ◌++◌, ◌∷◌, ◌≡◌, ◌≤◌}
use Rattle.kc_expr.specs.{Names.Extends, PartsOfExpressions.{levels_or, meaning_or, spell_or}, declared.parse.ExprFault.{ExprFault, TheVariants.{Memory, Syntax, TooDeep}}}
use Rattle.kc_language.specs.Expressions.{Atom, Disjunction, Form, IsNoExpression, IsTooDeep, LongestFront, OperandToken, Terminal, all_mentioned, names_in, number_of}
use Rattle.kc_text.specs.PartsOfText.{most_levels}

-- the result of parsing: the one expression of the longest prefix that begins some expression
pub record IsParsed (condition : Bool) (ts rest : List Terminal) (old names : List (List ℕ)) (f : Form) : Type 0 where
  pub front : List Terminal
  pub longest : LongestFront ts front rest
  pub tree : Disjunction
  pub derives : spell_or tree ≡ front
  pub within : levels_or tree ≤ most_levels
  pub mentions : names ≡ all_mentioned old (names_in tree)
  pub form : (later : List (List ℕ)) → Extends names later → f ≡ meaning_or condition (number_of later) tree

-- one of the tokens is an operand
pub record HasOperand (ts : List Terminal) : Type 0 where
  pub before : List Terminal
  pub atom : Atom
  pub after : List Terminal
  pub split : ts ≡ before ++ OperandToken atom ∷ after

-- the meaning of each error; out of memory is possible only if there is an operand
abbrev pub IsRefused : ExprFault → List Terminal → Type 0
IsRefused Syntax ts = IsNoExpression ts
IsRefused TooDeep ts = IsTooDeep ts
IsRefused Memory ts = HasOperand ts

-- Parsing has at most one result: one expression, its end and its names, or one of the errors.
pub record IsDetermined (ts : List Terminal) : Type 0 where
  pub one_answer : (condition : Bool) (rest rest' : List Terminal) (old names names' : List (List ℕ)) (f f' : Form) →
      IsParsed condition ts rest old names f → IsParsed condition ts rest' old names' f' → (rest ≡ rest') × (names ≡ names') × (f ≡ f')
  pub not_refused : (condition : Bool) (rest : List Terminal) (old names : List (List ℕ)) (f : Form) → IsParsed condition ts rest old names f → (IsNoExpression ts → ⊥) × (IsTooDeep ts → ⊥)
  pub one_refusal : IsNoExpression ts → IsTooDeep ts → ⊥

-- the result of the grammar for tokens: an expression and the tokens after it, or one of the errors
pub data Answer : Type 0 where
  Derived : Disjunction → List Terminal → Answer
  NoExpression : Answer
  TooManyLevels : Answer

abbrev pub Answers : List Terminal → Answer → Type 0
Answers ts (Derived d rest) = LongestFront ts (spell_or d) rest × (levels_or d ≤ most_levels)
Answers ts NoExpression = IsNoExpression ts
Answers ts TooManyLevels = IsTooDeep ts

-- the grammar has exactly one result for tokens
abbrev pub OneAnswer : Type 0
OneAnswer = (ts : List Terminal) → (answer : Answer) × Answers ts answer × ((other : Answer) → Answers ts other → answer ≡ other)
