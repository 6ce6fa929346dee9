-- Trusted: Well-formed trees: what holds for each tree.
use Rattle.std.specs.Prelude.{All, Contains, List, None, Some, length, slice_get, true, ℕ, ◌<◌, ◌≡◌, ◌≢◌, ◌≤◌}
use Rattle.kc_language.specs.{Expressions.{Every, Form, LoneM, Negated, Related, Single, Some_of, Symbol, Text, is_name_byte}, Symbols.{Bounds, ChoiceFacts, CommentShown, Condition, EndShown, Guarded, MenuShown, Shown, SymbolFacts, SymbolShown, TreeFacts}, Text.{longest_line, longest_name, most_symbols}, declared.expressions.SymId.SymId}
use Rattle.kc_text.specs.PartsOfLines.{HoldsNoLineFeed}
use Rattle.kc_language.specs.declared.expressions.SymbolType.TheVariants as symbol_type

-- at least one byte, only bytes of names, and not too many
pub record IsSymbolName (name : List ℕ) : Type 0 where
  pub some : 0 < length name
  pub short : length name ≤ longest_name
  pub bytes : All (λ b. is_name_byte b ≡ true) name

-- the mode of a condition, if it has one, is that of an existing choice
abbrev pub IsModeBelow : ℕ → Condition → Type 0
IsModeBelow n c = (k : ℕ) → c.mode ≡ Some k → k < n

-- the tree mentions a symbol of this number
abbrev pub IsMentioned : TreeFacts → SymId → Type 0
IsMentioned t s = s.0 < length t.symbols

-- the lines of one symbol name only existing choices and symbols
pub record AreLinesSound (t : TreeFacts) (f : SymbolFacts) : Type 0 where
  pub dependencies : All (IsModeBelow (length t.choices)) f.dependencies
  pub prompts : All (IsModeBelow (length t.choices)) f.prompts
  pub defaults : All (λ (g : Guarded Form). IsModeBelow (length t.choices) g.when) f.defaults
  pub ranges : All (λ (g : Guarded Bounds). IsModeBelow (length t.choices) g.when) f.ranges
  pub selectors : All (λ (g : Guarded SymId). IsMentioned t g.what × IsModeBelow (length t.choices) g.when) f.selectors
  pub impliers : All (λ (g : Guarded SymId). IsMentioned t g.what × IsModeBelow (length t.choices) g.when) f.impliers

-- s is a member of choice k, and is a bool
abbrev pub IsMemberOf : TreeFacts → ℕ → SymId → Type 0
IsMemberOf t k s = (f : SymbolFacts) × (slice_get t.symbols s.0 ≡ Some f) × (f.choice ≡ Some k) × (f.symbol_type ≡ symbol_type.Bool)

-- the members of a choice belong to it; its defaults are some of them; no condition of it has a mode
pub record IsChoiceSound (t : TreeFacts) (k : ℕ) (c : ChoiceFacts) : Type 0 where
  pub members : All (IsMemberOf t k) c.members
  pub defaults : All (λ (g : Guarded SymId). Contains c.members g.what × (g.when.mode ≡ None)) c.defaults
  pub prompt : (when : Condition) → c.prompt ≡ Some when → when.mode ≡ None

-- a member is among the members of its choice
abbrev pub IsListed : TreeFacts → SymId → SymbolFacts → Type 0
IsListed t s f = (k : ℕ) → f.choice ≡ Some k → (c : ChoiceFacts) × (slice_get t.choices k ≡ Some c) × Contains c.members s

-- entry i names only what exists
abbrev pub IsEntrySound : TreeFacts → ℕ → Shown → Type 0
IsEntrySound t i (SymbolShown s) = Contains t.defined s
IsEntrySound t i (MenuShown text when) = IsModeBelow (length t.choices) when
IsEntrySound t i (EndShown menu) =
    (menu < i) × ((text : List ℕ) × (when : Condition) × (slice_get t.entries menu ≡ Some (MenuShown text when)))
IsEntrySound t i (CommentShown text when) = IsModeBelow (length t.choices) when

-- one line, no longer than a line of a Kconfig file
pub record IsLineText (text : List ℕ) : Type 0 where
  pub within : length text ≤ longest_line
  pub one_line : HoldsNoLineFeed text

-- the title of a menu or comment satisfies P
abbrev pub OfTitle : (List ℕ → Type 0) → Shown → Type 0
OfTitle P (SymbolShown s) = Unit {0}
OfTitle P (MenuShown text when) = P text
OfTitle P (EndShown menu) = Unit {0}
OfTitle P (CommentShown text when) = P text

-- the main menu's text and each title satisfy P
pub record OfTitles (P : List ℕ → Type 0) (t : TreeFacts) : Type 0 where
  pub main_menu : P t.main_menu
  pub entries : (i : ℕ) (e : Shown) → slice_get t.entries i ≡ Some e → OfTitle P e

-- a constant that is alone is the text of one line
abbrev pub IsLineForm : Form → Type 0
IsLineForm (Single (Text bytes)) = IsLineText bytes
IsLineForm (Single (Symbol s)) = Unit {0}
IsLineForm (Related op a b) = Unit {0}
IsLineForm (Negated f) = Unit {0}
IsLineForm LoneM = Unit {0}
IsLineForm (Every fs) = Unit {0}
IsLineForm (Some_of fs) = Unit {0}

-- each text of a tree is in one line of a Kconfig file
pub record HasLineTexts (t : TreeFacts) : Type 0 where
  pub titles : OfTitles IsLineText t
  pub names : (i : ℕ) (name : List ℕ) → slice_get t.names i ≡ Some name → IsLineText name
  pub defaults : (i : ℕ) (f : SymbolFacts) → slice_get t.symbols i ≡ Some f → (g : Guarded Form) → Contains f.defaults g → IsLineForm g.what

-- each defined symbol has an entry
abbrev pub ShowsEach : TreeFacts → Type 0
ShowsEach t = (s : SymId) → Contains t.defined s → Contains t.entries (SymbolShown s)

pub record IsWellFormed (t : TreeFacts) : Type 0 where
  pub names_differ : (i j : ℕ) (name : List ℕ) → slice_get t.names i ≡ Some name → slice_get t.names j ≡ Some name → i ≡ j
  pub symbols_named : length t.symbols ≡ length t.names
  pub names_allowed : (s : SymId) (name : List ℕ) → Contains t.defined s → slice_get t.names s.0 ≡ Some name → IsSymbolName name
  pub symbols_few : length t.defined ≤ most_symbols
  pub defined_once : (i j : ℕ) (s : SymId) → slice_get t.defined i ≡ Some s → slice_get t.defined j ≡ Some s → i ≡ j
  pub defined_there : All (IsMentioned t) t.defined
  -- a symbol with a type or a prompt is defined
  pub typed_defined : (s : SymId) (f : SymbolFacts) → slice_get t.symbols s.0 ≡ Some f → f.symbol_type ≢ symbol_type.Undefined → Contains t.defined s
  pub prompted_defined : (s : SymId) (f : SymbolFacts) → slice_get t.symbols s.0 ≡ Some f → 0 < length f.prompts → Contains t.defined s
  pub lines_sound : All (AreLinesSound t) t.symbols
  pub members_listed : (i : ℕ) (f : SymbolFacts) → slice_get t.symbols i ≡ Some f → IsListed t (record { 0 = i }) f
  pub choices_sound : (k : ℕ) (c : ChoiceFacts) → slice_get t.choices k ≡ Some c → IsChoiceSound t k c
  pub entries_sound : (i : ℕ) (e : Shown) → slice_get t.entries i ≡ Some e → IsEntrySound t i e
  pub symbols_shown : ShowsEach t
  pub modules_defined : (s : SymId) → t.modules ≡ Some s → Contains t.defined s
  pub texts : HasLineTexts t
