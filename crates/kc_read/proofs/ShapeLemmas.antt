-- What a statement does, whether its names are written or numbered.
use Rattle.std.proofs.Common.{Bool, List, None, Option, Some, ap, length, option_map, refl, ℕ, ◌+◌, ◌∙◌, ◌≡◌}
use Rattle.std.specs.Option.{option_or}
use Rattle.kc_language.specs.{Expansion.{Bracket, FileContext, ReadSoFar, bracket, defined_name, entry_of, is_attribute, is_modules, limit_cause, open_blocks}, Expressions.{number_of, symbol}, Statements.{ChoiceLine, CommentLine, ConfigLine, DefLine, DefaultLine, DependsLine, EndChoiceLine, EndIfLine, EndMenuLine, HelpLine, IfLine, IgnoredLine, ImplyLine, Located, MainMenuLine, MenuLine, ModulesLine, Named, PromptLine, RangeLine, SelectLine, SourceLine, TypeLine, VisibleLine, numbered, statements}, declared.statements.EntryKind.EntryKind}
use Rattle.kc_entries.specs.{PartsOfExpansion.{defined, is_source, nesting_cause, symbol_cause}, StatementViews.statement_view, declared.statement.Statement.Statement}
use Rattle.kc_read.specs.{Expanded.IsNamed, LineReads.IsMade, Progress.naming_cause}
use Rattle.kc_language.specs.Statements as s
use Rattle.kc_read.proofs.NameLemmas.{extends_none, is_named}

-- the bracket, whether it is an attribute, the entry that it begins, whether it is a `modules` line, and a `source` line
abbrev pub shape : {E L S : Type 0} → s.Statement E L S → Bracket × Bool × EntryKind × Bool × Bool
shape x = (bracket x, is_attribute x, entry_of (Some x), is_modules x, is_source x)

shape_numbered : (number : List ℕ → ℕ) (x : Named) → shape (numbered number x) ≡ shape x
shape_numbered number (ConfigLine n) = refl
shape_numbered number (IfLine e) = refl
shape_numbered number EndIfLine = refl
shape_numbered number (CommentLine t) = refl
shape_numbered number (SourceLine t) = refl
shape_numbered number (MenuLine t) = refl
shape_numbered number EndMenuLine = refl
shape_numbered number ChoiceLine = refl
shape_numbered number EndChoiceLine = refl
shape_numbered number (MainMenuLine t) = refl
shape_numbered number (TypeLine k p) = refl
shape_numbered number (PromptLine p) = refl
shape_numbered number (DefaultLine v w) = refl
shape_numbered number (DefLine k v w) = refl
shape_numbered number (DependsLine e) = refl
shape_numbered number (VisibleLine e) = refl
shape_numbered number (SelectLine n w) = refl
shape_numbered number (ImplyLine n w) = refl
shape_numbered number (RangeLine a b w) = refl
shape_numbered number HelpLine = refl
shape_numbered number ModulesLine = refl
shape_numbered number IgnoredLine = refl

name_numbered : (number : List ℕ → ℕ) (x : Named) → defined_name (numbered number x) ≡ option_map (λ n. symbol (number n)) (defined_name x)
name_numbered number (ConfigLine n) = refl
name_numbered number (IfLine e) = refl
name_numbered number EndIfLine = refl
name_numbered number (CommentLine t) = refl
name_numbered number (SourceLine t) = refl
name_numbered number (MenuLine t) = refl
name_numbered number EndMenuLine = refl
name_numbered number ChoiceLine = refl
name_numbered number EndChoiceLine = refl
name_numbered number (MainMenuLine t) = refl
name_numbered number (TypeLine k p) = refl
name_numbered number (PromptLine p) = refl
name_numbered number (DefaultLine v w) = refl
name_numbered number (DefLine k v w) = refl
name_numbered number (DependsLine e) = refl
name_numbered number (VisibleLine e) = refl
name_numbered number (SelectLine n w) = refl
name_numbered number (ImplyLine n w) = refl
name_numbered number (RangeLine a b w) = refl
name_numbered number HelpLine = refl
name_numbered number ModulesLine = refl
name_numbered number IgnoredLine = refl

pub made_shape : (known names : List (List ℕ)) (s : Statement) (x : Named) → IsMade known names s x → shape (statement_view s) ≡ shape x
made_shape known names s x m = ap shape (m.form names (extends_none names)) ∙ shape_numbered (number_of names) x

pub made_name : (known names : List (List ℕ)) (s : Statement) (x : Named) → IsMade known names s x → IsNamed names (defined_name (statement_view s)) (defined_name x)
made_name known names s x m = is_named names (defined_name (statement_view s)) (defined_name x) (λ later e. ap defined_name (m.form later e) ∙ name_numbered (number_of later) x)

pub or_none : {A : Type 0} (o : Option A) → option_or o None ≡ o
or_none None = refl
or_none (Some x) = refl

-- a config line may define a symbol too many, and any other line open a block too many
pub effect_by : (a : FileContext) (own : List (Located Named)) (log : ReadSoFar) (x : Named) →
    option_or (naming_cause (defined (statements log.lines)) (defined_name x))
    (nesting_cause (length a.blocks + length (open_blocks (statements own))) (bracket x)) ≡ limit_cause a own log x
effect_by site own log (ConfigLine n) = or_none (symbol_cause (defined (statements log.lines)) n)
effect_by site own log (IfLine e) = refl
effect_by site own log EndIfLine = refl
effect_by site own log (CommentLine t) = refl
effect_by site own log (SourceLine t) = refl
effect_by site own log (MenuLine t) = refl
effect_by site own log EndMenuLine = refl
effect_by site own log ChoiceLine = refl
effect_by site own log EndChoiceLine = refl
effect_by site own log (MainMenuLine t) = refl
effect_by site own log (TypeLine k p) = refl
effect_by site own log (PromptLine p) = refl
effect_by site own log (DefaultLine v w) = refl
effect_by site own log (DefLine k v w) = refl
effect_by site own log (DependsLine e) = refl
effect_by site own log (VisibleLine e) = refl
effect_by site own log (SelectLine n w) = refl
effect_by site own log (ImplyLine n w) = refl
effect_by site own log (RangeLine a b w) = refl
effect_by site own log HelpLine = refl
effect_by site own log ModulesLine = refl
effect_by site own log IgnoredLine = refl

-- a `source` line is written as one
pub source_is : (number : List ℕ → ℕ) (t : List ℕ) (x : Named) → SourceLine t ≡ numbered number x → x ≡ SourceLine t
source_is number t (ConfigLine n) same = absurd cc
source_is number t (IfLine e) same = absurd cc
source_is number t EndIfLine same = absurd cc
source_is number t (CommentLine u) same = absurd cc
source_is number t (SourceLine u) same = ap SourceLine (let f : u ≡ t = cc in f)
source_is number t (MenuLine u) same = absurd cc
source_is number t EndMenuLine same = absurd cc
source_is number t ChoiceLine same = absurd cc
source_is number t EndChoiceLine same = absurd cc
source_is number t (MainMenuLine u) same = absurd cc
source_is number t (TypeLine k p) same = absurd cc
source_is number t (PromptLine p) same = absurd cc
source_is number t (DefaultLine v w) same = absurd cc
source_is number t (DefLine k v w) same = absurd cc
source_is number t (DependsLine e) same = absurd cc
source_is number t (VisibleLine e) same = absurd cc
source_is number t (SelectLine n w) same = absurd cc
source_is number t (ImplyLine n w) same = absurd cc
source_is number t (RangeLine a b w) same = absurd cc
source_is number t HelpLine same = absurd cc
source_is number t ModulesLine same = absurd cc
source_is number t IgnoredLine same = absurd cc
