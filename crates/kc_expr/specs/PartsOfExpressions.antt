-- Trusted: Parts of the definitions of Expressions, with names of their own.
use Rattle.std.specs.{List.flat_map, Prelude.{Bool, List, None, Option, Some, [], false, if◌then◌else◌, is_some, map, true, unwrap_or, ℕ, ◌&&◌, ◌++◌, ◌∷◌}}
use Rattle.kc_language.specs.{Expressions.{Bang, Begins, Close, Compares, Disjunction, Every, Form, Forms, Joins, Keyword, Leaf, LoneM, Open, OperandToken, Single, Some_of, Symbol, SymbolValue, Terminal, Text, TextValue, Truth, lesser, levels, meaning, names_in_atom, same_name, spell, terminal_of, tri_text, tristate_constant, truth_of_value}, Tokens.Lexeme, declared.{expressions.{Connective.{Connective, TheVariants.{And, Or}}, SymId.SymId, SymbolType.TheVariants.Str, Tri.{TheVariants.{M, N}, Tri}}, tokens.Op.Op}}
use Rattle.kc_language.specs.declared.tokens.Op.TheVariants as op

-- the text is n, m or y
abbrev pub is_tristate_constant : List ℕ → Bool
is_tristate_constant text = is_some (tristate_constant text)

-- a value as a text
abbrev pub text_of_value : SymbolValue → List ℕ
text_of_value v = elim v [ Truth t ↦ tri_text t | TextValue _ bytes ↦ bytes ]

-- the value is that of a string symbol
abbrev pub is_string_value : SymbolValue → Bool
is_string_value v = elim v [ Truth _ ↦ false | TextValue type _ ↦ elim type [ Str ↦ true | _ ↦ false ] ]

module _ (known : SymId → SymbolValue) where
  -- An operand as a truth value. A text has the truth value n, except m and y.
  abbrev pub truth : Leaf → Tri
  truth l = elim l [ Text bytes ↦ unwrap_or (tristate_constant bytes) N | Symbol s ↦ truth_of_value (known s) ]

  -- a lone m of a condition: n if no modules symbol is defined
  abbrev pub lone_m : Option SymId → Tri
  lone_m None = N
  lone_m (Some s) = lesser M (truth_of_value (known s))

abbrev pub op_terminal : Op → Terminal
op_terminal op.Eq = Compares op.Eq
op_terminal op.Ne = Compares op.Ne
op_terminal op.Lt = Compares op.Lt
op_terminal op.Gt = Compares op.Gt
op_terminal op.Le = Compares op.Le
op_terminal op.Ge = Compares op.Ge
op_terminal op.Not = Bang
op_terminal op.And = Joins And
op_terminal op.Or = Joins Or
op_terminal op.LParen = Open
op_terminal op.RParen = Close

abbrev pub terminals : List Lexeme → List Terminal
terminals = map terminal_of

abbrev pub spell_or : Disjunction → List Terminal
spell_or d = spell d

abbrev pub levels_or : Disjunction → ℕ
levels_or d = levels d

abbrev pub m_word : List ℕ
m_word = tri_text M

abbrev pub is_m_leaf : Leaf → Bool
is_m_leaf (Symbol s) = false
is_m_leaf (Text t) = same_name t m_word

-- A lone operand. In a condition, m (quoted or not) is a lone `m`, which also depends on the modules symbol.
abbrev pub lone_form : Bool → Leaf → Form
lone_form condition l = if condition && elim l [ Text bytes ↦ same_name bytes (tri_text M) | Symbol _ ↦ false ] then LoneM else Single l

-- two parts or more are one `Every` or `Some_of`
abbrev pub connected : Connective → Forms → Form
connected c = elim c [ And ↦ Every | Or ↦ Some_of ]

module _ (condition : Bool) (number : List ℕ → ℕ) where
  abbrev pub meaning_or : Disjunction → Form
  meaning_or d = meaning condition number d

abbrev pub names_in_terminal : Terminal → List (List ℕ)
names_in_terminal (OperandToken a) = names_in_atom a
names_in_terminal (Compares o) = []
names_in_terminal Bang = []
names_in_terminal (Joins c) = []
names_in_terminal Open = []
names_in_terminal Close = []
names_in_terminal Keyword = []

-- the names that tokens mention, from left to right
abbrev pub names_in_terminals : List Terminal → List (List ℕ)
names_in_terminals = flat_map names_in_terminal

-- the prefix cannot be extended by the next token
abbrev pub NoLonger : List Terminal → List Terminal → Type 0
NoLonger front [] = Unit {0}
NoLonger front (t ∷ _) = Begins (front ++ t ∷ []) → ⊥
