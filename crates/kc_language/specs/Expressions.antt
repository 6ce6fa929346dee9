-- Trusted: 4. Expressions: the numbers of names, what an expression is and its value, and which tokens form an expression.
-- Sources: the kernel's kconfig-language document ("Menu dependencies"), and kconfiglib for comparisons and a lone `m` of a condition. The rest is our own.
use Rattle.std.specs.{Char.{is_ascii_alphanumeric}, Cmp.Lexicographic.{slice_cmp}, List.{flat_map, fold, list_any, position_or_len}, Option.{option_to_list}, Ordering.{int_cmp, nat_cmp}, Prelude.{Bool, List, None, Option, Some, [], bytes_eq, codes, false, if◌then◌else◌, is_some, max, pos, suc, true, unwrap_or, ℕ, ℤ, ◌&&◌, ◌++◌, ◌==◌, ◌||◌, ◌∷◌, ◌≡◌, ◌≢◌, ◌≤◌}, declared.cmp.Ordering.{Ordering, TheVariants.{Equal, Greater, Less}}}
use Rattle.kc_language.specs.{Text.{byte, has_hex_prefix, hex_of, int_of, most_open, unescape}, Tokens.{AQuoted, AWord, AnOp, Lexeme}, declared.{expressions.Connective.{Connective, TheVariants.{And, Or}}, expressions.SymId.SymId, expressions.SymbolType.{SymbolType, TheVariants.{Hex, Int, Str}}, expressions.Tri.{Tri, TheVariants.{M, N, Y}}, tokens.Op.Op}}

-- ---- Names and their numbers. A symbol is the number of its name. Two names are the same if their bytes are.
abbrev pub symbol : ℕ → SymId
symbol n = record { 0 = n }

abbrev pub same_symbol : SymId → SymId → Bool
same_symbol s t = s.0 == t.0

abbrev pub same_name : List ℕ → List ℕ → Bool
same_name = bytes_eq

-- The bytes of a defined symbol's name: letters, digits and `_`.
abbrev pub is_name_byte : ℕ → Bool
is_name_byte b = is_ascii_alphanumeric b || b == byte "_"

-- The number of a name is its position in the list of names. A new name has the next number, and its mention adds it to the list.
abbrev pub number_of : List (List ℕ) → List ℕ → ℕ
number_of names name = position_or_len (same_name name) names

abbrev pub mention : List (List ℕ) → List ℕ → List (List ℕ)
mention names name = if list_any (same_name name) names then names else names ++ name ∷ []

abbrev pub all_mentioned : List (List ℕ) → List (List ℕ) → List (List ℕ)
all_mentioned = fold mention

-- ---- Expressions. An operand is a text or a symbol.
pub data Leaf : Type 0 where
  Text : List ℕ → Leaf
  Symbol : SymId → Leaf

-- An expression: an operand, a relation, `!`, a lone `m` of a condition, `&&` of its parts, or `||` of its parts.
mutual
  pub data Form : Type 0 where
    Single : Leaf → Form
    Related : Op → Leaf → Leaf → Form
    Negated : Form → Form
    LoneM : Form
    Every Some_of : Forms → Form

  pub data Forms : Type 0 where
    NoForms : Forms
    MoreForms : Form → Forms → Forms

abbrev pub forms : List Form → Forms
forms [] = NoForms
forms (f ∷ fs) = MoreForms f (forms fs)

-- The symbols that an expression names, from left to right. A lone `m` names the modules symbol, if there is one.
abbrev pub leaf_symbols : Leaf → List SymId
leaf_symbols l = elim l [ Text _ ↦ [] | Symbol s ↦ s ∷ [] ]

module _ (modules : Option SymId) where
  abbrev mutual
    pub symbols : Form → List SymId
    symbols (Single a) = leaf_symbols a
    symbols (Related _ a b) = leaf_symbols a ++ leaf_symbols b
    symbols (Negated f) = symbols f
    symbols LoneM = option_to_list modules
    symbols (Every fs) = all_symbols fs
    symbols (Some_of fs) = all_symbols fs

    pub all_symbols : Forms → List SymId
    all_symbols NoForms = []
    all_symbols (MoreForms f fs) = symbols f ++ all_symbols fs

-- ---- Values. The constants n, m and y: their texts, the text that is one of them, and their numbers.
abbrev pub tri_text : Tri → List ℕ
tri_text t = elim t [ N ↦ codes "n" | M ↦ codes "m" | Y ↦ codes "y" ]

abbrev pub tristate_constant : List ℕ → Option Tri
tristate_constant (b ∷ []) = if b == byte "n" then Some N else if b == byte "m" then Some M else if b == byte "y" then Some Y else None
tristate_constant _ = None

abbrev pub tri_number : Tri → ℤ
tri_number t = elim t [ N ↦ pos 0 | M ↦ pos 1 | Y ↦ pos 2 ]

-- `!` is 2 minus the value, `&&` the least and `||` the greatest value.
abbrev pub opposite : Tri → Tri
opposite t = elim t [ N ↦ Y | M ↦ M | Y ↦ N ]

abbrev pub lesser : Tri → Tri → Tri
lesser = elim [ N ↦ λ b. N | M ↦ elim [ N ↦ N | _ ↦ M ] | Y ↦ λ b. b ]

abbrev pub greater : Tri → Tri → Tri
greater = elim [ N ↦ λ b. b | M ↦ elim [ Y ↦ Y | _ ↦ M ] | Y ↦ λ b. Y ]

abbrev pub least : List Tri → Tri
least [] = Y
least (t ∷ ts) = lesser t (least ts)

abbrev pub greatest : List Tri → Tri
greatest [] = N
greatest (t ∷ ts) = greater t (greatest ts)

-- The value of a symbol: a truth value for a bool or tristate, otherwise its type and its text.
pub data SymbolValue : Type 0 where
  Truth : Tri → SymbolValue
  TextValue : SymbolType → List ℕ → SymbolValue

-- A value as a truth value. That of a text is n.
abbrev pub truth_of_value : SymbolValue → Tri
truth_of_value v = elim v [ Truth t ↦ t | TextValue _ _ ↦ N ]

-- A value as a number. An int is decimal and a hex is hexadecimal. Any other text is hexadecimal after `0x` or `0X`, otherwise decimal.
abbrev pub number_of_text : List ℕ → Option ℤ
number_of_text bytes = if has_hex_prefix bytes then hex_of bytes else int_of bytes

abbrev pub number_of_value : SymbolValue → Option ℤ
number_of_value v = elim v [ Truth t ↦ Some (tri_number t) | TextValue Int b ↦ int_of b | TextValue Hex b ↦ hex_of b | TextValue _ b ↦ number_of_text b ]

-- The relations that hold for each result of a comparison.
abbrev pub holds : Op → Ordering → Bool
holds op = elim [
  | Less ↦ elim op [ Op.Lt ↦ true | Op.Le ↦ true | Op.Ne ↦ true | _ ↦ false ]
  | Equal ↦ elim op [ Op.Eq ↦ true | Op.Le ↦ true | Op.Ge ↦ true | _ ↦ false ]
  | Greater ↦ elim op [ Op.Gt ↦ true | Op.Ge ↦ true | Op.Ne ↦ true | _ ↦ false ]
]

-- Compares numbers if both sides are numbers, otherwise texts.
abbrev pub compare_operands : Option ℤ → Option ℤ → List ℕ → List ℕ → Ordering
compare_operands (Some x) (Some y) _ _ = int_cmp x y
compare_operands _ _ a b = slice_cmp nat_cmp a b

module _ (known : SymId → SymbolValue) where
  -- An operand as a number and as a text, and whether it is a string symbol.
  abbrev pub number : Leaf → Option ℤ
  number l = elim l [ Text b ↦ elim (tristate_constant b) [ None ↦ number_of_text b | Some t ↦ Some (tri_number t) ] | Symbol s ↦ number_of_value (known s) ]

  abbrev pub text : Leaf → List ℕ
  text l = elim l [ Text bytes ↦ bytes | Symbol s ↦ elim (known s) [ Truth t ↦ tri_text t | TextValue _ bytes ↦ bytes ] ]

  abbrev pub is_string : Leaf → Bool
  is_string l = elim l [ Text _ ↦ false | Symbol s ↦ elim (known s) [ Truth _ ↦ false | TextValue type _ ↦ elim type [ Str ↦ true | _ ↦ false ] ] ]

  -- Two string symbols compare as texts, even if both texts are numbers.
  abbrev pub compared : Leaf → Leaf → Ordering
  compared a b =
      if is_string a && is_string b then slice_cmp nat_cmp (text a) (text b) else compare_operands (number a) (number b) (text a) (text b)

-- The value of an expression. A text alone is n, except m and y. A lone `m` of a condition is `m && MODULES`, and n if there is no modules symbol.
module _ (known : SymId → SymbolValue) (modules : Option SymId) where
  abbrev mutual
    pub value : Form → Tri
    value (Single a) = elim a [ Text bytes ↦ unwrap_or (tristate_constant bytes) N | Symbol s ↦ truth_of_value (known s) ]
    value (Related op a b) = if holds op (compared known a b) then Y else N
    value (Negated f) = opposite (value f)
    value LoneM = elim modules [ None ↦ N | Some s ↦ lesser M (truth_of_value (known s)) ]
    value (Every fs) = least (values fs)
    value (Some_of fs) = greatest (values fs)

    pub values : Forms → List Tri
    values NoForms = []
    values (MoreForms f fs) = value f ∷ values fs

-- ---- The grammar
--     or = and { "||" and }        and = not { "&&" not }
--     not     = "!" not | "(" or ")" | operand [ ( "=" | "!=" | "<" | ">" | "<=" | ">=" ) operand ]
--     operand = a word other than if | a quoted text
-- A token as the grammar sees it: an operand, a relation, `!`, `&&` or `||`, a parenthesis, or the word `if`.
pub data Atom : Type 0 where
  WordAtom QuotedAtom : List ℕ → Atom

pub data Terminal : Type 0 where
  OperandToken : Atom → Terminal
  Compares : Op → Terminal
  Bang : Terminal
  Joins : Connective → Terminal
  Open Close Keyword : Terminal

abbrev pub if_word : List ℕ
if_word = codes "if"

abbrev pub terminal_of : Lexeme → Terminal
terminal_of (AWord w) = if same_name w if_word then Keyword else OperandToken (WordAtom w)
terminal_of (AQuoted q) = OperandToken (QuotedAtom q)
terminal_of (AnOp o) = elim o [ Op.Not ↦ Bang | Op.And ↦ Joins And | Op.Or ↦ Joins Or | Op.LParen ↦ Open | Op.RParen ↦ Close | r ↦ Compares r ]

-- A way to derive an expression: `Chain Or` is the rule `or`, `Chain And` the rule `and`, and `Negation` the rule `not`.
mutual
  pub data Chain : Connective → Type 0 where
    only : {c : Connective} → Part c → Chain c
    joined : {c : Connective} → Part c → Chain c → Chain c

  pub data Part : Connective → Type 0 where
    negation : Negation → Part And
    conjunction : Chain And → Part Or

  pub data Negation : Type 0 where
    bang : Negation → Negation
    group : Chain Or → Negation
    lone : Atom → Negation
    compare : Op → Atom → Atom → Negation

abbrev pub Disjunction : Type 0
Disjunction = Chain Or

-- The tokens of a derivation.
abbrev mutual
  pub spell : {c : Connective} → Chain c → List Terminal
  spell (only p) = spell_part p
  spell {c} (joined p ps) = spell_part p ++ Joins c ∷ spell ps

  pub spell_part : {c : Connective} → Part c → List Terminal
  spell_part (negation n) = spell_not n
  spell_part (conjunction ps) = spell ps

  pub spell_not : Negation → List Terminal
  spell_not (bang n) = Bang ∷ spell_not n
  spell_not (group d) = Open ∷ spell d ++ Close ∷ []
  spell_not (lone a) = OperandToken a ∷ []
  spell_not (compare o a b) = OperandToken a ∷ Compares o ∷ OperandToken b ∷ []

-- The levels of a derivation: the most `(` and `!` that are open at once.
abbrev mutual
  pub levels : {c : Connective} → Chain c → ℕ
  levels (only p) = levels_part p
  levels (joined p ps) = max (levels_part p) (levels ps)

  pub levels_part : {c : Connective} → Part c → ℕ
  levels_part (negation n) = levels_not n
  levels_part (conjunction ps) = levels ps

  pub levels_not : Negation → ℕ
  levels_not (bang n) = suc (levels_not n)
  levels_not (group d) = suc (levels d)
  levels_not (lone _) = 0
  levels_not (compare _ _ _) = 0

-- An operand, given the numbers of names. The words n, m and y are constants, and any other word is a symbol.
abbrev pub leaf : (List ℕ → ℕ) → Atom → Leaf
leaf number a = elim a [ WordAtom w ↦ if is_some (tristate_constant w) then Text w else Symbol (symbol (number w)) | QuotedAtom q ↦ Text (unescape q) ]

-- The expression of a derivation: two parts or more are one `Every` or `Some_of`, a single part is itself, and parentheses add nothing.
-- In a condition, an operand m (quoted or not) that is alone is a lone `m`. Its value also depends on the modules symbol.
module _ (condition : Bool) (number : List ℕ → ℕ) where
  abbrev mutual
    pub meaning : {c : Connective} → Chain c → Form
    meaning (only p) = meaning_part p
    meaning {c} (joined p ps) = elim c as (λ _. Forms → Form) [ And ↦ Every | Or ↦ Some_of ] (forms (meaning_part p ∷ parts ps))

    pub parts : {c : Connective} → Chain c → List Form
    parts (only p) = meaning_part p ∷ []
    parts (joined p ps) = meaning_part p ∷ parts ps

    pub meaning_part : {c : Connective} → Part c → Form
    meaning_part (negation n) = meaning_not n
    meaning_part (conjunction ps) = meaning ps

    pub meaning_not : Negation → Form
    meaning_not (bang n) = Negated (meaning_not n)
    meaning_not (group d) = meaning d
    meaning_not (lone a) =
        if condition && elim (leaf number a) [ Text bytes ↦ same_name bytes (tri_text M) | Symbol _ ↦ false ] then LoneM else Single (leaf number a)
    meaning_not (compare o a b) = Related o (leaf number a) (leaf number b)

-- The names that an expression mentions, from left to right: its words other than n, m and y.
abbrev pub names_in_atom : Atom → List (List ℕ)
names_in_atom a = elim a [ WordAtom w ↦ if is_some (tristate_constant w) then [] else w ∷ [] | QuotedAtom _ ↦ [] ]

abbrev pub names_in : Disjunction → List (List ℕ)
names_in d = flat_map (λ t. elim t [ OperandToken a ↦ names_in_atom a | _ ↦ [] ]) (spell d)

-- ---- Where an expression ends, and when there is none. These tokens begin some expression, or one of at most k levels.
abbrev pub Begins : List Terminal → Type 0
Begins front = (d : Disjunction) × (after : List Terminal) × (spell d ≡ front ++ after)

abbrev pub BeginsWithin : ℕ → List Terminal → Type 0
BeginsWithin k front = (d : Disjunction) × (after : List Terminal) × (levels d ≤ k) × (spell d ≡ front ++ after)

-- The longest prefix that begins some expression, and the rest, whose first token cannot be added to the prefix.
pub record LongestFront (ts front rest : List Terminal) : Type 0 where
  pub whole : ts ≡ front ++ rest
  pub begins : Begins front
  pub longest : elim rest as (λ _. Type 0) [ [] ↦ Unit {0} | t ∷ _ ↦ (Begins (front ++ t ∷ []) → ⊥) ]

-- A syntax error: the longest prefix that begins some expression is no expression itself. It begins one of at most `most_open` levels.
pub record IsNoExpression (ts : List Terminal) : Type 0 where
  pub front : List Terminal
  pub rest : List Terminal
  pub longest : LongestFront ts front rest
  pub within : BeginsWithin most_open front
  pub none : (d : Disjunction) → spell d ≢ front

-- Too deep: a prefix begins some expression, but none of at most `most_open` levels.
pub record IsTooDeep (ts : List Terminal) : Type 0 where
  pub front : List Terminal
  pub rest : List Terminal
  pub whole : ts ≡ front ++ rest
  pub begins : Begins front
  pub deep : BeginsWithin most_open front → ⊥
