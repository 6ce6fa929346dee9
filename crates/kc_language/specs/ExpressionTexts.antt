-- Trusted: 12. The text of an expression. Our own.
-- The text is printed so that the grammar reads it back, with as few parentheses as the grammar allows.
use Rattle.std.specs.{List.{list_any}, Prelude.{[], All, Bool, IsTrue, List, None, Option, Some, codes, false, if◌then◌else◌, is_some, length, map, suc, true, ℕ, ◌&&◌, ◌++◌, ◌+◌, ◌<◌, ◌≡◌, ◌≢◌, ◌≤◌}}
use Rattle.kc_language.specs.{Expressions.{Chain, Compares, Disjunction, Every, Form, Forms, Leaf, LoneM, MoreForms, Negated, Negation, NoForms, OperandToken, Part, QuotedAtom, Related, Single, Some_of, Symbol, Terminal, Text, WordAtom, bang, compare, conjunction, group, if_word, joined, levels, lone, meaning, negation, number_of, only, same_name, spell, terminal_of, text, tri_text, tristate_constant}, Symbols.{name_by}, Text.{byte, escape}, Tokens.{IsCut, Lexeme, is_word_byte, relation_text}, declared.{expressions.{Connective.{Connective, TheVariants.{And, Or}}, SymId.{SymId}, Tri.TheVariants.{M}}, tokens.Op.{Op}}}
use Rattle.kc_language.specs.declared.tokens.Op.TheVariants as op

-- ---- The text of an expression
-- A text in quotes; one in parentheses, if they are needed; what joins the parts of a chain.
abbrev pub quoted : List ℕ → List ℕ
quoted text = codes "\"" ++ escape text ++ codes "\""

abbrev pub parenthesized : Bool → List ℕ → List ℕ
parenthesized needed text = if needed then codes "(" ++ text ++ codes ")" else text

abbrev pub joint : Connective → List ℕ
joint c = elim c [ And ↦ codes " && " | Or ↦ codes " || " ]

-- An expression is alone (None), or a part of a `||` or of a `&&` or `!`. A `&&` needs parentheses in the last case. A `||` needs them unless it is alone.
abbrev pub is_and : Option Connective → Bool
is_and place = elim place [ Some c ↦ elim c [ And ↦ true | Or ↦ false ] | None ↦ false ]

module _ (names : List (List ℕ)) where
  -- A constant n, m or y is a word, and any other constant is quoted. A symbol is its name.
  abbrev pub operand_text : Leaf → List ℕ
  operand_text a = elim a [ Text t ↦ if is_some (tristate_constant t) then t else quoted t | Symbol s ↦ name_by names s ]

  abbrev mutual
    pub text_at : Option Connective → Form → List ℕ
    text_at place (Single a) = operand_text a
    text_at place (Related o a b) = operand_text a ++ codes " " ++ relation_text o ++ codes " " ++ operand_text b
    text_at place (Negated f) = codes "!" ++ text_at (Some And) f
    text_at place LoneM = tri_text M
    text_at place (Every fs) = parenthesized (is_and place) (chain_text And [] fs)
    text_at place (Some_of fs) = parenthesized (is_some place) (chain_text Or [] fs)

    -- the parts of a chain, with `lead` before the first
    pub chain_text : Connective → List ℕ → Forms → List ℕ
    chain_text c lead NoForms = []
    chain_text c lead (MoreForms f fs) = lead ++ text_at (Some c) f ++ chain_text c (joint c) fs

  abbrev pub expression_text : Form → List ℕ
  expression_text f = text_at None f

-- ---- The text is read back
-- A symbol can be read if its name is a word other than `if`, n, m and y, and has its number.
pub record HasName (names : List (List ℕ)) (s : SymId) : Type 0 where
  pub some : 0 < length (name_by names s)
  pub word : All (λ b. IsTrue (is_word_byte b)) (name_by names s)
  pub no_keyword : same_name (name_by names s) if_word ≡ false
  pub no_constant : is_some (tristate_constant (name_by names s)) ≡ false
  pub numbered : number_of names (name_by names s) ≡ s.0

-- How many parentheses a derivation opens.
abbrev mutual
  pub groups : {c : Connective} → Chain c → ℕ
  groups (only p) = groups_part p
  groups (joined p ps) = groups_part p + groups ps

  pub groups_part : {c : Connective} → Part c → ℕ
  groups_part (negation n) = groups_not n
  groups_part (conjunction ps) = groups ps

  pub groups_not : Negation → ℕ
  groups_not (bang n) = groups_not n
  groups_not (group d) = suc (groups d)
  groups_not (lone a) = 0
  groups_not (compare o a b) = 0

abbrev pub is_relation : Op → Bool
is_relation o = elim o [ op.Not ↦ false | op.And ↦ false | op.Or ↦ false | op.LParen ↦ false | op.RParen ↦ false | _ ↦ true ]

abbrev pub has_two : Forms → Bool
has_two (MoreForms f (MoreForms g fs)) = true
has_two _ = false

abbrev pub IsOperand : List (List ℕ) → Leaf → Type 0
IsOperand names a = elim a [ Text t ↦ All (λ b. b ≢ byte "$") t | Symbol s ↦ HasName names s ]

module _ (condition : Bool) (names : List (List ℕ)) where
  -- A chain has two parts or more. A lone `m` occurs only in a condition, and a constant m that is alone occurs only elsewhere.
  abbrev mutual
    pub IsReadable : Form → Type 0
    IsReadable (Single a) = IsOperand names a × ((condition && elim a [ Text t ↦ same_name t (tri_text M) | Symbol s ↦ false ]) ≡ false)
    IsReadable (Related o a b) = IsTrue (is_relation o) × IsOperand names a × IsOperand names b
    IsReadable (Negated f) = IsReadable f
    IsReadable LoneM = condition ≡ true
    IsReadable (Every fs) = IsTrue (has_two fs) × AreReadable fs
    IsReadable (Some_of fs) = IsTrue (has_two fs) × AreReadable fs

    pub AreReadable : Forms → Type 0
    AreReadable NoForms = Unit {0}
    AreReadable (MoreForms f fs) = IsReadable f × AreReadable fs

  -- The text is cut into the tokens of an expression that means the same. No other has fewer parentheses or fewer levels.
  pub record IsReadBack (f : Form) : Type 0 where
    pub tokens : List Lexeme
    pub tree : Disjunction
    pub cut : IsCut (expression_text names f) tokens None
    pub derives : spell tree ≡ map terminal_of tokens
    pub means : meaning condition (number_of names) tree ≡ f
    pub fewest : (other : Disjunction) → meaning condition (number_of names) other ≡ f → (groups tree ≤ groups other) × (levels tree ≤ levels other)

abbrev pub ReadsBack : Type 0
ReadsBack = (condition : Bool) (names : List (List ℕ)) (f : Form) → IsReadable condition names f → IsReadBack condition names f

-- A token of a line: a word is not `if`, and it is a constant or a name of the list; a quoted text holds no `$`; a comparison is a relation.
abbrev pub IsNumberedWord : List (List ℕ) → List ℕ → Type 0
IsNumberedWord names w = (0 < length w) × All (λ b. IsTrue (is_word_byte b)) w × (same_name w if_word ≡ false)
    × (is_some (tristate_constant w) ≡ false → list_any (same_name w) names ≡ true)

abbrev pub IsNumberedToken : List (List ℕ) → Terminal → Type 0
IsNumberedToken names t = elim t [
  | OperandToken a ↦ elim a [ WordAtom w ↦ IsNumberedWord names w | QuotedAtom q ↦ All (λ b. b ≢ byte "$") q ]
  | Compares o ↦ IsTrue (is_relation o)
  | _ ↦ Unit {0}
]

-- So the meaning of each expression of a line is readable. By `ReadsBack`, only such meanings are readable.
abbrev pub MeaningsAreReadable : Type 0
MeaningsAreReadable = (condition : Bool) (names : List (List ℕ)) (d : Disjunction) → All (IsNumberedToken names) (spell d) →
    IsReadable condition names (meaning condition (number_of names) d)
