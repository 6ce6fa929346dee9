-- For proofs: The results of the parser's functions: each one's part of an expression, or where it fails.
use Rattle.std.specs.Prelude.{Bool, List, MatchBool, None, Option, Some, [], false, length, true, ℕ, ◌++◌, ◌+◌, ◌<◌, ◌∷◌, ◌≡◌, ◌≤◌}
use Rattle.kc_expr.specs.{Form.leaf_of, Grammar.terminals_from, Names.Extends, Parsing.HasOperand, PartsOfExpressions.{names_in_terminals, op_terminal}, Scan.{State, done, lone_in, lone_not, lone_part, right, run, single, step, want}, declared.{expression.Operand.Operand, parse.ExprFault.{ExprFault, TheVariants.{Memory, Syntax, TooDeep}}}}
use Rattle.kc_language.specs.{Expressions.{Atom, Bang, Chain, Close, Compares, Form, Joins, Keyword, Leaf, Negation, Open, OperandToken, Part, Terminal, all_mentioned, leaf, levels, levels_not, levels_part, meaning, meaning_not, meaning_part, names_in_atom, number_of, spell, spell_not, spell_part, terminal_of}, declared.{expressions.Connective.{Connective, TheVariants.{And, Or}}, tokens.Op.Op}}
use Rattle.kc_language.specs.declared.tokens.Op.TheVariants as op
use Rattle.kc_text.specs.{Lexemes.lexeme, declared.tokens.Token.Token}

-- the kind of the next token, if there is one
abbrev pub starts_compares : List Terminal → Bool
starts_compares [] = false
starts_compares (Compares o ∷ ts) = true
starts_compares (_ ∷ ts) = false

abbrev pub same_connective : Connective → Connective → Bool
same_connective And And = true
same_connective And Or = false
same_connective Or And = false
same_connective Or Or = true

abbrev pub joins : Connective → Terminal → Bool
joins c (Joins d) = same_connective c d
joins c (OperandToken a) = false
joins c (Compares o) = false
joins c Bang = false
joins c Open = false
joins c Close = false
joins c Keyword = false

abbrev pub starts_joins : Connective → List Terminal → Bool
starts_joins c [] = false
starts_joins c (t ∷ ts) = joins c t

abbrev pub starts_close : List Terminal → Bool
starts_close [] = false
starts_close (Close ∷ ts) = true
starts_close (_ ∷ ts) = false

-- the machine cannot end in this state
abbrev pub IsUnfinished : State → Type 0
IsUnfinished (want cur base stack) = Unit {0}
IsUnfinished (right base stack) = Unit {0}
IsUnfinished (single base []) = ⊥
IsUnfinished (single base (b ∷ stack)) = Unit {0}
IsUnfinished (done base []) = ⊥
IsUnfinished (done base (b ∷ stack)) = Unit {0}

-- the machine cannot read the next token in this state
abbrev pub Refuses : ℕ → State → List Terminal → Type 0
Refuses limit s [] = Unit {0}
Refuses limit s (t ∷ ts) = step limit s t ≡ None

abbrev pub Any_start : ℕ → ℕ → Type 0
Any_start cur base = Unit {0}

abbrev pub Fresh_start : ℕ → ℕ → Type 0
Fresh_start cur base = cur ≡ base

module _ {T : Type 0} (spell : T → List Terminal) (levels : T → ℕ) where
  -- the tokens end before the part is complete, or the next token does not fit
  pub record Broken (Starts : ℕ → ℕ → Type 0) (k : ℕ) (ts : List Terminal) : Type 0 where
    pub front : List Terminal
    pub rest : List Terminal
    pub whole : ts ≡ front ++ rest
    pub tree : T
    pub rest_of_tree : List Terminal
    pub begins : spell tree ≡ front ++ rest_of_tree
    pub within : levels tree ≤ k
    pub cannot_go_on : (limit cur base : ℕ) (stack : List ℕ) → Starts cur base → cur + k ≤ limit →
        (s : State) × (run limit (want cur base stack) front ≡ Some s) × IsUnfinished s × Refuses limit s rest

  -- a level more than allowed is opened
  pub record Deep (Starts : ℕ → ℕ → Type 0) (k : ℕ) (ts : List Terminal) : Type 0 where
    pub front : List Terminal
    pub rest : List Terminal
    pub whole : ts ≡ front ++ rest
    pub tree : T
    pub rest_of_tree : List Terminal
    pub begins : spell tree ≡ front ++ rest_of_tree
    pub deep : (cur base : ℕ) (stack : List ℕ) → Starts cur base → run (cur + k) (want cur base stack) front ≡ None

  -- the part is complete, and no longer part begins here
  pub record Parsed (meaning : (List ℕ → ℕ) → T → Form) (StopsIt : T → List Terminal → Type 0) (k : ℕ) (ts rest : List Terminal) (old names : List (List ℕ)) (f : Form) : Type 0 where
    pub tree : T
    pub whole : ts ≡ spell tree ++ rest
    pub mentions : names ≡ all_mentioned old (names_in_terminals (spell tree))
    pub within : levels tree ≤ k
    pub stops : StopsIt tree rest
    pub form : (later : List (List ℕ)) → Extends names later → f ≡ meaning (number_of later) tree

abbrev pub StopsNot : Negation → List Terminal → Type 0
StopsNot n rest = lone_not n ≡ true → starts_compares rest ≡ false

-- the next token is no connective that the part itself would continue with
abbrev pub NoneWithin : Connective → List Terminal → Type 0
NoneWithin And rest = Unit {0}
NoneWithin Or rest = starts_joins And rest ≡ false

abbrev pub StopsPart : (c : Connective) → Part c → List Terminal → Type 0
StopsPart c p rest = (lone_part p ≡ true → starts_compares rest ≡ false) × NoneWithin c rest

abbrev pub StopsChain : (c : Connective) → Chain c → List Terminal → Type 0
StopsChain c ps rest = (lone_in ps ≡ true → starts_compares rest ≡ false) × NoneWithin c rest × (starts_joins c rest ≡ false)

abbrev pub ParsedNot : Bool → ℕ → List Terminal → List Terminal → List (List ℕ) → List (List ℕ) → Form → Type 0
ParsedNot condition = Parsed spell_not levels_not (meaning_not condition) StopsNot

abbrev pub ParsedPart : Connective → Bool → ℕ → List Terminal → List Terminal → List (List ℕ) → List (List ℕ) → Form → Type 0
ParsedPart c condition = Parsed {T = Part c} spell_part levels_part (λ number p. meaning_part condition number p) (StopsPart c)

abbrev pub ParsedChain : Connective → Bool → ℕ → List Terminal → List Terminal → List (List ℕ) → List (List ℕ) → Form → Type 0
ParsedChain c condition = Parsed {T = Chain c} spell levels (λ number ps. meaning condition number ps) (StopsChain c)

-- where a part may start: the first negation of a chain may also follow a `!`
abbrev pub PartStart : Connective → ℕ → ℕ → Type 0
PartStart And = Any_start
PartStart Or = Fresh_start

-- the meaning of each error
abbrev pub FailsNot : ExprFault → ℕ → List Terminal → Type 0
FailsNot Syntax k ts = Broken spell_not levels_not Any_start k ts
FailsNot TooDeep k ts = Deep spell_not levels_not Any_start k ts
FailsNot Memory k ts = HasOperand ts

abbrev pub FailsPart : Connective → ExprFault → ℕ → List Terminal → Type 0
FailsPart c Syntax k ts = Broken {T = Part c} spell_part levels_part (PartStart c) k ts
FailsPart c TooDeep k ts = Deep {T = Part c} spell_part levels_part (PartStart c) k ts
FailsPart c Memory k ts = HasOperand ts

abbrev pub FailsChain : Connective → ExprFault → ℕ → List Terminal → Type 0
FailsChain c Syntax k ts = Broken {T = Chain c} spell levels Fresh_start k ts
FailsChain c TooDeep k ts = Deep {T = Chain c} spell levels Fresh_start k ts
FailsChain c Memory k ts = HasOperand ts

-- the next token
abbrev pub IsNext : Option Token → List Token → ℕ → Type 0
IsNext None tokens at = terminals_from tokens at ≡ []
IsNext (Some t) tokens at = (at < length tokens) × (terminals_from tokens at ≡ terminal_of (lexeme t) ∷ terminals_from tokens (at + 1))

-- the next token is an operand; the operand that was read
abbrev pub starts_operand : List Terminal → Bool
starts_operand [] = false
starts_operand (OperandToken a ∷ ts) = true
starts_operand (_ ∷ ts) = false

pub record ReadsAtom (tokens : List Token) (at : ℕ) (old names : List (List ℕ)) (o : Leaf) : Type 0 where
  pub atom : Atom
  pub mentions : names ≡ all_mentioned old (names_in_atom atom)
  pub there : at < length tokens
  pub next : terminals_from tokens at ≡ OperandToken atom ∷ terminals_from tokens (at + 1)
  pub leaf_is : (later : List (List ℕ)) → Extends names later → o ≡ leaf (number_of later) atom

abbrev pub ReadsOperand : Option Operand → List Token → ℕ → List (List ℕ) → List (List ℕ) → Type 0
ReadsOperand None tokens at old names = starts_operand (terminals_from tokens at) ≡ false
ReadsOperand (Some o) tokens at old names = ReadsAtom tokens at old names (leaf_of o)

abbrev pub ReadsRelation : Option Op → List Token → ℕ → Type 0
ReadsRelation None tokens at = starts_compares (terminals_from tokens at) ≡ false
ReadsRelation (Some o) tokens at = (at < length tokens) × (terminals_from tokens at ≡ Compares o ∷ terminals_from tokens (at + 1))

abbrev pub IsMemory : ExprFault → Type 0
IsMemory Syntax = ⊥
IsMemory TooDeep = ⊥
IsMemory Memory = Unit {0}

-- memory ran out for an operand that is the next token
abbrev pub IsMemoryAt : List Terminal → ExprFault → Type 0
IsMemoryAt ts Syntax = ⊥
IsMemoryAt ts TooDeep = ⊥
IsMemoryAt ts Memory = starts_operand ts ≡ true

abbrev pub starts_bang : List Terminal → Bool
starts_bang [] = false
starts_bang (Bang ∷ ts) = true
starts_bang (_ ∷ ts) = false

abbrev pub starts_open : List Terminal → Bool
starts_open [] = false
starts_open (Open ∷ ts) = true
starts_open (_ ∷ ts) = false

-- whether the next token is this operator: one that opens, joins or closes
abbrev pub starts_op : Op → List Terminal → Bool
starts_op op.Not ts = starts_bang ts
starts_op op.LParen ts = starts_open ts
starts_op op.And ts = starts_joins And ts
starts_op op.Or ts = starts_joins Or ts
starts_op op.RParen ts = starts_close ts
starts_op _ ts = false

-- whether the connective is at a position
abbrev pub IsJoined : Connective → List Token → ℕ → Bool → Type 0
IsJoined c tokens at b =
    MatchBool b ((at < length tokens) × (terminals_from tokens at ≡ Joins c ∷ terminals_from tokens (at + 1))) (starts_joins c (terminals_from tokens at) ≡ false)

abbrev pub IsOp : Op → List Token → ℕ → Bool → Type 0
IsOp o tokens at b =
    MatchBool b ((at < length tokens) × (terminals_from tokens at ≡ op_terminal o ∷ terminals_from tokens (at + 1))) (starts_op o (terminals_from tokens at) ≡ false)

-- the next token is neither `!` nor `(`
abbrev pub StartsNoOperand : List Terminal → Type 0
StartsNoOperand ts = (starts_bang ts ≡ false) × (starts_open ts ≡ false)

-- the next token is no operator that could follow an operand
abbrev pub StartsNoOp : List Terminal → Type 0
StartsNoOp ts = (starts_compares ts ≡ false) × (starts_joins And ts ≡ false) × (starts_joins Or ts ≡ false)

-- whether the operand at a position is alone; if false, nothing is claimed
abbrev pub IsLone : List Token → ℕ → Bool → Type 0
IsLone tokens at true = StartsNoOperand (terminals_from tokens at) × StartsNoOp (terminals_from tokens (at + 1))
IsLone tokens at false = Unit {0}
