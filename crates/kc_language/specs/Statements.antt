-- Trusted: 5. Statements: what one line of a Kconfig file says, and where it is allowed.
-- Source: the kernel's kconfig-language document. The errors and the unsupported constructs are our own. Begin with `ReadsLine`, at the end.
use Rattle.std.specs.{List.{list_all, list_any}, Map.{lookup}, Prelude.{Bool, Err, List, MatchResult, None, Ok, Option, Result, Some, [], codes, decimal, drop, false, if◌then◌else◌, is_some, length, map, nat_le, not, option_map, true, ℕ, ◌&&◌, ◌++◌, ◌==◌, ◌||◌, ◌∷◌, ◌≡◌, ◌≤◌, ◌⊎◌}}
use Rattle.kc_language.specs.{Expressions.{Atom, Disjunction, Form, IsNoExpression, IsTooDeep, Leaf, LongestFront, QuotedAtom, WordAtom, if_word, is_name_byte, leaf, levels, meaning, names_in, names_in_atom, same_name, spell, symbol, terminal_of, tristate_constant}, Text.{byte, longest_input_line, longest_line, longest_name, most_lines, most_open, most_symbols, unescape}, Tokens.{AQuoted, AWord, Lexeme}, declared.{diagnostics.{Cause.Cause as CauseAbout, RunError.RunError}, expressions.{SymId.SymId, SymbolType.SymbolType}, statements.{Block.Block, EntryKind.EntryKind, Keyword.Keyword}}}
use Rattle.kc_language.specs.declared.diagnostics.Cause.TheVariants as cause
use Rattle.kc_language.specs.declared.statements.Keyword.TheVariants as key

-- ---- Errors
-- Why a tree is refused, with the name, word or loop that the error is about.
abbrev pub Cause : Type 0
Cause = CauseAbout (List ℕ)

-- The number and the text of each error.
abbrev pub cause_text : Cause → List ℕ
cause_text (cause.NoFile name) = codes "E1: no file " ++ name
cause_text (cause.InclusionLoop name) = codes "E2: file " ++ name ++ codes " includes itself"
cause_text cause.TooManyLines = codes "E3: more than " ++ decimal most_lines ++ codes " lines"
cause_text cause.LineTooLong = codes "E4: line longer than " ++ decimal longest_line ++ codes " bytes"
cause_text cause.BadToken = codes "E5: bad token"
cause_text cause.Macro = codes "E6: macro"
cause_text (cause.LeftOut word) = codes "E7: " ++ word ++ codes " is left out"
cause_text cause.Syntax = codes "E8: syntax"
cause_text cause.Block = codes "E9: unbalanced block"
cause_text cause.Misplaced = codes "E10: misplaced"
cause_text (cause.BadName name) = codes "E11: bad name " ++ name
cause_text cause.TooDeep = codes "E12: too deep"
cause_text (cause.ChoiceMember name) = codes "E13: choice member " ++ name
cause_text (cause.BadDefault name) = codes "E14: bad default of " ++ name
cause_text (cause.Loop names) = codes "E15: dependency loop: " ++ names
cause_text cause.TooManySymbols = codes "E16: more than " ++ decimal most_symbols ++ codes " symbols"
cause_text cause.Memory = codes "E20: out of memory"

-- An error is printed as the line `FILE:LINE: error TEXT`, or as `error TEXT` if it is not about a line.
abbrev pub error_at : List ℕ → ℕ → List ℕ → List ℕ
error_at file line text = file ++ codes ":" ++ decimal line ++ codes ": error " ++ text ++ codes "\n"

abbrev pub error_line : List ℕ → List ℕ
error_line text = codes "error " ++ text ++ codes "\n"

-- The text of each error of a run, and two error lines. A name that make cannot read is reported up to its first line feed.
abbrev pub run_error_text : RunError (List ℕ) → List ℕ
run_error_text RunError.LineTooLong = codes "E17: line longer than " ++ decimal longest_input_line ++ codes " bytes"
run_error_text (RunError.CannotRead name) = codes "E18: cannot read " ++ name
run_error_text (RunError.CannotWrite name) = codes "E19: cannot write " ++ name
run_error_text RunError.Memory = codes "E20: out of memory"
run_error_text RunError.WarningsRefused = codes "E21: warnings are refused"
run_error_text (RunError.NotUpToDate name) = codes "E22: " ++ name ++ codes " is not up to date"
run_error_text (RunError.UnreadableName name) = codes "E23: make cannot read the name " ++ name
run_error_text (RunError.UnknownName name near) = codes "E24: no symbol has the name " ++ name ++ near

abbrev pub out_of_memory_line : List ℕ
out_of_memory_line = error_line (run_error_text RunError.Memory)

abbrev pub cannot_read_line : List ℕ → List ℕ
cannot_read_line name = error_line (run_error_text (RunError.CannotRead name))

-- ---- Statements
-- A prompt's text and its condition.
pub record InputPrompt (E : Type 0) : Type 0 where
  pub text : List ℕ
  pub when : Option E

-- What a line says. E is the type of expressions, L of operands and S of names. An `Option E` is a condition after `if`.
pub data Statement (E L S : Type 0) : Type 0 where
  ConfigLine : S → Statement E L S
  IfLine : E → Statement E L S
  EndIfLine : Statement E L S
  CommentLine SourceLine MenuLine : List ℕ → Statement E L S
  EndMenuLine ChoiceLine EndChoiceLine : Statement E L S
  MainMenuLine : List ℕ → Statement E L S
  TypeLine : SymbolType → Option (InputPrompt E) → Statement E L S
  PromptLine : InputPrompt E → Statement E L S
  DefaultLine : E → Option E → Statement E L S
  DefLine : SymbolType → E → Option E → Statement E L S
  DependsLine VisibleLine : E → Statement E L S
  SelectLine ImplyLine : S → Option E → Statement E L S
  RangeLine : L → L → Option E → Statement E L S
  HelpLine ModulesLine IgnoredLine : Statement E L S

-- A statement as it is written, and as it is once each name is a number.
abbrev pub Named : Type 0
Named = Statement Disjunction Atom (List ℕ)

abbrev pub Numbered : Type 0
Numbered = Statement Form Leaf SymId

-- A statement with its file and line. `statements` drops the file and line.
pub record Located (T : Type 0) : Type 0 where
  pub file : List ℕ
  pub line : ℕ
  pub statement : T

abbrev pub statements : {T : Type 0} → List (Located T) → List T
statements = map (λ l. l.statement)

-- The statement with its names numbered. In conditions (`meaning true`) a lone `m` depends on the modules symbol. A prompt's text is not kept.
abbrev pub numbered : (List ℕ → ℕ) → Named → Numbered
numbered number s = elim s [
  | ConfigLine n ↦ ConfigLine (symbol (number n))
  | PromptLine p ↦ PromptLine (record { text = []; when = option_map (meaning true number) p.when })
  | TypeLine k p ↦ TypeLine k (option_map (λ a. record { text = []; when = option_map (meaning true number) a.when }) p)
  | IfLine e ↦ IfLine (meaning true number e)
  | DependsLine e ↦ DependsLine (meaning true number e)
  | VisibleLine e ↦ VisibleLine (meaning true number e)
  | DefaultLine v w ↦ DefaultLine (meaning false number v) (option_map (meaning true number) w)
  | DefLine k v w ↦ DefLine k (meaning false number v) (option_map (meaning true number) w)
  | SelectLine n w ↦ SelectLine (symbol (number n)) (option_map (meaning true number) w)
  | ImplyLine n w ↦ ImplyLine (symbol (number n)) (option_map (meaning true number) w)
  | RangeLine a b w ↦ RangeLine (leaf number a) (leaf number b) (option_map (meaning true number) w)
  | CommentLine t ↦ CommentLine t
  | SourceLine t ↦ SourceLine t
  | MenuLine t ↦ MenuLine t
  | MainMenuLine t ↦ MainMenuLine t
  | EndIfLine ↦ EndIfLine
  | EndMenuLine ↦ EndMenuLine
  | ChoiceLine ↦ ChoiceLine
  | EndChoiceLine ↦ EndChoiceLine
  | HelpLine ↦ HelpLine
  | ModulesLine ↦ ModulesLine
  | IgnoredLine ↦ IgnoredLine
]

-- The names that a statement mentions, from left to right.
abbrev pub names_in_condition : Option Disjunction → List (List ℕ)
names_in_condition w = elim w [ None ↦ [] | Some d ↦ names_in d ]

abbrev pub names_in_statement : Named → List (List ℕ)
names_in_statement s = elim s [
  | ConfigLine n ↦ n ∷ []
  | IfLine e ↦ names_in e
  | DependsLine e ↦ names_in e
  | VisibleLine e ↦ names_in e
  | PromptLine p ↦ names_in_condition p.when
  | TypeLine k o ↦ elim o [ None ↦ [] | Some p ↦ names_in_condition p.when ]
  | DefaultLine v w ↦ names_in v ++ names_in_condition w
  | DefLine k v w ↦ names_in v ++ names_in_condition w
  | SelectLine n w ↦ n ∷ names_in_condition w
  | ImplyLine n w ↦ n ∷ names_in_condition w
  | RangeLine a b w ↦ names_in_atom a ++ (names_in_atom b ++ names_in_condition w)
  | _ ↦ []
]

-- ---- Keywords
-- The words that may begin a line. The last nine belong to other tools or versions, and are refused with E7.
abbrev pub keyword_words : List (List ℕ × Keyword)
keyword_words =
    (codes "config", key.Config) ∷ (codes "depends", key.Depends) ∷ (codes "default", key.Default) ∷ (codes "bool", key.Type SymbolType.Bool) ∷
    (codes "help", key.Help) ∷ (codes "select", key.Select) ∷ (codes "if", key.If) ∷ (codes "endif", key.EndIf) ∷
    (codes "tristate", key.Type SymbolType.Tristate) ∷ (codes "string", key.Type SymbolType.Str) ∷ (codes "int", key.Type SymbolType.Int) ∷
    (codes "hex", key.Type SymbolType.Hex) ∷ (codes "range", key.Range) ∷ (codes "prompt", key.Prompt) ∷ (codes "imply", key.Imply) ∷
    (codes "def_bool", key.Def SymbolType.Bool) ∷ (codes "source", key.Source) ∷ (codes "menu", key.Menu) ∷ (codes "endmenu", key.EndMenu) ∷
    (codes "menuconfig", key.Config) ∷ (codes "choice", key.Choice) ∷ (codes "endchoice", key.EndChoice) ∷ (codes "comment", key.Comment) ∷
    (codes "visible", key.Visible) ∷ (codes "modules", key.Modules) ∷ (codes "option", key.«Option») ∷
    (codes "def_tristate", key.Def SymbolType.Tristate) ∷ (codes "mainmenu", key.MainMenu) ∷ (codes "---help---", key.Help) ∷
    map (λ w. (w, key.LeftOut)) (codes "rsource" ∷ codes "osource" ∷ codes "orsource" ∷ codes "boolean" ∷ codes "def_int" ∷ codes "def_hex" ∷
    codes "def_string" ∷ codes "transitional" ∷ codes "optional" ∷ [])

-- The keyword of a word, if it is one.
abbrev pub keyword_of : List ℕ → Option Keyword
keyword_of w = lookup (same_name w) keyword_words

-- The next token is this word.
abbrev pub begins_with : List ℕ → List Lexeme → Bool
begins_with w = elim [ AWord v ∷ ts ↦ same_name v w | _ ↦ false ]

-- ---- Where a line is allowed
-- The entry that the line would belong to, its file's innermost open block, whether it is in a choice, and whether it may be a `modules` line.
pub record LineContext : Type 0 where
  pub entry : EntryKind
  pub own : Option Block
  pub in_choice : Bool
  pub modules : Bool

-- Whether the entry is a symbol's, and whether it is a choice's.
abbrev pub is_config : EntryKind → Bool
is_config e = elim e [ EntryKind.Config ↦ true | _ ↦ false ]

abbrev pub is_choice_entry : EntryKind → Bool
is_choice_entry e = elim e [ EntryKind.Choice ↦ true | _ ↦ false ]

-- E9: a closing line must match the innermost open block of its own file.
abbrev pub closing_cause : Block → Option Block → Option Cause
closing_cause Block.If (Some Block.If) = None
closing_cause Block.Menu (Some Block.Menu) = None
closing_cause Block.Choice (Some Block.Choice) = None
closing_cause b _ = Some cause.Block

-- E10: the line must be allowed here.
abbrev pub unless_placed : Bool → Option Cause
unless_placed placed = elim placed [ true ↦ None | false ↦ Some cause.Misplaced ]

-- A symbol may have any type. A choice may only have the type bool.
abbrev pub type_placement : EntryKind → SymbolType → Option Cause
type_placement EntryKind.Config k = None
type_placement EntryKind.Choice SymbolType.Bool = None
type_placement EntryKind.Choice SymbolType.Tristate = Some (cause.LeftOut (codes "tristate choice"))
type_placement e k = Some cause.Misplaced

-- Why a line that begins with the word w, which is this keyword, is not allowed here. Its other tokens are ts.
abbrev pub placement_cause : LineContext → List ℕ → List Lexeme → Keyword → Option Cause
placement_cause c w ts k = elim k [
  | key.EndIf ↦ closing_cause Block.If c.own
  | key.EndMenu ↦ closing_cause Block.Menu c.own
  | key.EndChoice ↦ closing_cause Block.Choice c.own
  | key.Menu ↦ unless_placed (not c.in_choice)
  | key.MainMenu ↦ unless_placed (not c.in_choice)
  | key.Choice ↦ unless_placed (not c.in_choice)
  | key.Prompt ↦ unless_placed (is_config c.entry || is_choice_entry c.entry)
  | key.Default ↦ unless_placed (is_config c.entry || is_choice_entry c.entry)
  | key.Help ↦ unless_placed (is_config c.entry || is_choice_entry c.entry)
  | key.Type t ↦ type_placement c.entry t
  | key.Select ↦ unless_placed (is_config c.entry)
  | key.Imply ↦ unless_placed (is_config c.entry)
  | key.Range ↦ unless_placed (is_config c.entry)
  | key.Def t ↦ unless_placed (is_config c.entry)
  | key.Depends ↦ unless_placed (elim c.entry [ EntryKind.Nothing ↦ false | _ ↦ true ])
  | key.Visible ↦ unless_placed (elim c.entry [ EntryKind.Menu ↦ true | _ ↦ false ])
  | key.Modules ↦ unless_placed (is_config c.entry && c.modules)
  | key.«Option» ↦ if begins_with (codes "modules") ts then unless_placed (is_config c.entry && c.modules) else unless_placed (is_config c.entry)
  | key.LeftOut ↦ Some (cause.LeftOut w)
  | _ ↦ None
]

-- ---- The parts of a line
-- An expression, and the tokens after it.
pub record Front : Type 0 where
  pub tree : Disjunction
  pub rest : List Lexeme

-- The tokens begin with this expression of at most `most_open` levels, and no longer prefix of them begins any expression.
pub record StartsExpression (ts : List Lexeme) (f : Front) : Type 0 where
  pub used : ℕ
  pub rest_is : f.rest ≡ drop used ts
  pub longest : LongestFront (map terminal_of ts) (spell f.tree) (map terminal_of f.rest)
  pub within : levels f.tree ≤ most_open

-- Why the tokens begin with no expression: the longest prefix that begins one is not one itself (E8), or a prefix opens too many levels (E12).
abbrev pub ExpressionFault : List Lexeme → Cause → Type 0
ExpressionFault ts c = (IsNoExpression (map terminal_of ts) × (c ≡ cause.Syntax)) ⊎ (IsTooDeep (map terminal_of ts) × (c ≡ cause.TooDeep))

-- `IsMore`: the line has at least one more token. `finish`: the line must end here, and gives a.
abbrev pub IsMore : List Lexeme → Type 0
IsMore ts = (t : Lexeme) × (us : List Lexeme) × (ts ≡ t ∷ us)

abbrev pub finish : {A : Type 0} → A → List Lexeme → Result A Cause
finish a = elim [ [] ↦ Ok a | t ∷ ts ↦ Err cause.Syntax ]

-- An expression that reaches to the end of the line: why it is refused, and the statement that it gives.
abbrev pub WholeFault : List Lexeme → Cause → Type 0
WholeFault ts c = ExpressionFault ts c ⊎ ((f : Front) × StartsExpression ts f × IsMore f.rest × (c ≡ cause.Syntax))

abbrev pub ReadsWhole : (Disjunction → Named) → List Lexeme → Result Named Cause → Type 0
ReadsWhole make ts = elim [ Ok x ↦ (d : Disjunction) × StartsExpression ts (record { tree = d; rest = [] }) × (x ≡ make d) | Err c ↦ WholeFault ts c ]

-- A condition: nothing, or `if` and an expression, up to the end of the line.
abbrev pub IsCondition : List Lexeme → Option Disjunction → Type 0
IsCondition ts = elim [ None ↦ ts ≡ [] | Some d ↦ (begins_with if_word ts ≡ true) × StartsExpression (drop 1 ts) (record { tree = d; rest = [] }) ]

abbrev pub ConditionFault : List Lexeme → Cause → Type 0
ConditionFault ts c = ((begins_with if_word ts ≡ true) × WholeFault (drop 1 ts) c) ⊎ (IsMore ts × (begins_with if_word ts ≡ false) × (c ≡ cause.Syntax))

abbrev pub ReadsCondition : (Option Disjunction → Named) → List Lexeme → Result Named Cause → Type 0
ReadsCondition make ts = elim [ Ok x ↦ (w : Option Disjunction) × IsCondition ts w × (x ≡ make w) | Err c ↦ ConditionFault ts c ]

-- A value: an expression, and then a condition.
abbrev pub ReadsValue : (Disjunction → Option Disjunction → Named) → List Lexeme → Result Named Cause → Type 0
ReadsValue make ts (Ok x) = (f : Front) × (w : Option Disjunction) × StartsExpression ts f × IsCondition f.rest w × (x ≡ make f.tree w)
ReadsValue make ts (Err c) = ExpressionFault ts c ⊎ ((f : Front) × StartsExpression ts f × ConditionFault f.rest c)

-- Parts of one token: a word (also `if`); a text, quoted or a word; an operand; and the name after `select` or `imply`, which is not a constant.
abbrev pub word_of : List Lexeme → Result (List ℕ) Cause
word_of = elim [ AWord w ∷ ts ↦ Ok w | _ ↦ Err cause.Syntax ]

abbrev pub text_of : List Lexeme → Result (List ℕ) Cause
text_of = elim [ AWord w ∷ ts ↦ if same_name w if_word then Err cause.Syntax else Ok w | AQuoted t ∷ ts ↦ Ok (unescape t) | _ ↦ Err cause.Syntax ]

abbrev pub operand_of : List Lexeme → Result Atom Cause
operand_of = elim [ AWord w ∷ ts ↦ if same_name w if_word then Err cause.Syntax else Ok (WordAtom w) | AQuoted t ∷ ts ↦ Ok (QuotedAtom t) | _ ↦ Err cause.Syntax ]

abbrev pub named_target : List Lexeme → Result (List ℕ) Cause
named_target = elim [ AWord w ∷ ts ↦ if same_name w if_word || is_some (tristate_constant w) then Err cause.Syntax else Ok w | _ ↦ Err cause.Syntax ]

-- One part, then the next. If the part is refused, r is its cause.
abbrev pub After : {A B : Type 0} → Result A Cause → (A → Result B Cause → Type 0) → Result B Cause → Type 0
After o Next r = MatchResult o (λ a. Next a r) (λ c. r ≡ Err c)

-- ---- What follows the first word
-- `comment`, `menu`, `mainmenu`: a text.
abbrev pub ReadsTextLine : (List ℕ → Named) → List Lexeme → Result Named Cause → Type 0
ReadsTextLine make ts = After (text_of ts) (λ t r. r ≡ finish (make t) (drop 1 ts))

-- `source`: a text that is not a pattern.
abbrev pub plain_text : List ℕ → Result (List ℕ) Cause
plain_text t = if list_any (λ b. b == byte "*" || b == byte "?" || b == byte "[") t then Err (cause.LeftOut (codes "pattern")) else Ok t

abbrev pub ReadsSource : List Lexeme → Result Named Cause → Type 0
ReadsSource ts = After (text_of ts) (λ t. After (plain_text t) (λ u r. r ≡ finish (SourceLine u) (drop 1 ts)))

-- The name after `config` or `menuconfig`: 1 to 255 letters, digits and `_`, and none of the words `n`, `m`, `y` and `if`.
abbrev pub is_good_name : List ℕ → Bool
is_good_name w = if same_name w if_word || is_some (tristate_constant w) then false
    else (nat_le 1 (length w) && nat_le (length w) longest_name && list_all is_name_byte w)

-- `prompt`, or a type with a prompt: a text and a condition.
abbrev pub ReadsPrompt : (InputPrompt Disjunction → Named) → List Lexeme → Result Named Cause → Type 0
ReadsPrompt make ts = After (text_of ts) (λ t. ReadsCondition (λ w. make (record { text = t; when = w })) (drop 1 ts))

-- `option`: `modules`, or `allnoconfig_y`, which has no effect. `env` and `defconfig_list` are not supported (E7).
abbrev pub option_line : List Lexeme → Result Named Cause
option_line ts =
    if begins_with (codes "modules") ts then finish ModulesLine (drop 1 ts)
    else if begins_with (codes "allnoconfig_y") ts then finish IgnoredLine (drop 1 ts)
    else if begins_with (codes "env") ts then Err (cause.LeftOut (codes "option env"))
    else if begins_with (codes "defconfig_list") ts then Err (cause.LeftOut (codes "option defconfig_list")) else Err cause.Syntax

-- What follows the first word w, by its keyword. A type is alone or has a prompt. A `choice` has no name.
abbrev pub ReadsRest : List ℕ → Keyword → List Lexeme → Result Named Cause → Type 0
ReadsRest w k = elim k [
  | key.EndIf ↦ λ ts r. r ≡ finish EndIfLine ts
  | key.EndMenu ↦ λ ts r. r ≡ finish EndMenuLine ts
  | key.EndChoice ↦ λ ts r. r ≡ finish EndChoiceLine ts
  | key.Help ↦ λ ts r. r ≡ finish HelpLine ts
  | key.Modules ↦ λ ts r. r ≡ finish ModulesLine ts
  | key.Choice ↦ λ ts r. r ≡ elim ts [ [] ↦ Ok ChoiceLine | _ ↦ Err (cause.LeftOut (codes "named choice")) ]
  | key.«Option» ↦ λ ts r. r ≡ option_line ts
  | key.Comment ↦ ReadsTextLine CommentLine
  | key.Menu ↦ ReadsTextLine MenuLine
  | key.MainMenu ↦ ReadsTextLine MainMenuLine
  | key.Source ↦ ReadsSource
  | key.Config ↦ λ ts. After (word_of ts) (λ w. After (finish w (drop 1 ts)) (λ v r. r ≡ (if is_good_name v then Ok (ConfigLine v) else Err (cause.BadName v))))
  | key.Type t ↦ λ ts r. ((ts ≡ []) × (r ≡ Ok (TypeLine t None))) ⊎ (IsMore ts × ReadsPrompt (λ p. TypeLine t (Some p)) ts r)
  | key.Prompt ↦ ReadsPrompt PromptLine
  | key.Default ↦ ReadsValue DefaultLine
  | key.Def t ↦ ReadsValue (DefLine t)
  | key.Select ↦ λ ts. After (named_target ts) (λ t. ReadsCondition (SelectLine t) (drop 1 ts))
  | key.Imply ↦ λ ts. After (named_target ts) (λ t. ReadsCondition (ImplyLine t) (drop 1 ts))
  | key.If ↦ ReadsWhole IfLine
  | key.Depends ↦ λ ts. After (if begins_with (codes "on") ts then Ok (drop 1 ts) else Err cause.Syntax) (ReadsWhole DependsLine)
  | key.Visible ↦ λ ts. After (if begins_with if_word ts then Ok (drop 1 ts) else Err cause.Syntax) (ReadsWhole VisibleLine)
  | key.Range ↦ λ ts. After (operand_of ts) (λ a. After (operand_of (drop 1 ts)) (λ b. ReadsCondition (RangeLine a b) (drop 2 ts)))
  | key.LeftOut ↦ λ ts r. r ≡ Err (cause.LeftOut w)
]

-- The first word must be a keyword, and its line must be allowed here.
abbrev pub keyword_or_refusal : Option Keyword → Result Keyword Cause
keyword_or_refusal word = elim word [ None ↦ Err cause.Syntax | Some k ↦ Ok k ]

abbrev pub in_place : Keyword → Option Cause → Result Keyword Cause
in_place k = elim [ None ↦ Ok k | Some why ↦ Err why ]

-- The tokens of a line read as this statement or are refused. The first word is checked first, then whether the line is allowed here, then the rest.
abbrev pub ReadsLine : LineContext → List Lexeme → Result Named Cause → Type 0
ReadsLine c ts =
    After (word_of ts) (λ w.
    After (keyword_or_refusal (keyword_of w)) (λ k.
    After (in_place k (placement_cause c w (drop 1 ts) k)) (λ j. ReadsRest w j (drop 1 ts))))
