-- Trusted: Lines and statements, without their layout in memory.
use Rattle.std.specs.Prelude.{List, [], option_map, ℕ}
use Rattle.kc_language.specs.{Expressions.{Form, number_of}, Statements.{ChoiceLine, CommentLine, ConfigLine, DefLine, DefaultLine, DependsLine, EndChoiceLine, EndIfLine, EndMenuLine, HelpLine, IfLine, IgnoredLine, ImplyLine, InputPrompt, MainMenuLine, MenuLine, ModulesLine, Numbered, PromptLine, RangeLine, SelectLine, SourceLine, TypeLine, VisibleLine}}
use Rattle.kc_expr.specs.{Form.{form_of, leaf_of}, Names.Extends, When.when_view}
use Rattle.kc_entries.specs.declared.statement.{Attribute.Attribute, Head.Head, Prompt.Prompt, Statement.Statement}
use Rattle.kc_entries.specs.declared.statement.Attribute.TheVariants as attribute
use Rattle.kc_entries.specs.declared.statement.Head.TheVariants as head
use Rattle.kc_entries.specs.declared.statement.Statement.TheVariants as made

-- a prompt and a statement, without their layout in memory
abbrev pub input_prompt_view : Prompt → InputPrompt Form
input_prompt_view p = record { text = []; when = when_view p.when }

abbrev pub head_view : Head → Numbered
head_view (head.Config s) = ConfigLine s
head_view (head.If e) = IfLine (form_of e.value)
head_view head.EndIf = EndIfLine
head_view (head.Comment t) = CommentLine t.value.items
head_view (head.Menu t) = MenuLine t.value.items
head_view head.EndMenu = EndMenuLine
head_view head.Choice = ChoiceLine
head_view head.EndChoice = EndChoiceLine
head_view (head.MainMenu t) = MainMenuLine t.value.items

abbrev pub attribute_view : Attribute → Numbered
attribute_view (attribute.Type k p) = TypeLine k (option_map input_prompt_view p)
attribute_view (attribute.Prompt p) = PromptLine (input_prompt_view p)
attribute_view (attribute.Default d) = DefaultLine (form_of d.value.value) (when_view d.when)
attribute_view (attribute.Def k d) = DefLine k (form_of d.value.value) (when_view d.when)
attribute_view (attribute.Depends e) = DependsLine (form_of e.value)
attribute_view (attribute.Visible e) = VisibleLine (form_of e.value)
attribute_view (attribute.Select s w) = SelectLine s (when_view w)
attribute_view (attribute.Imply s w) = ImplyLine s (when_view w)
attribute_view (attribute.Range r) = RangeLine (leaf_of r.value.low) (leaf_of r.value.high) (when_view r.value.when)
attribute_view attribute.Help = HelpLine
attribute_view attribute.Modules = ModulesLine
attribute_view attribute.Ignored = IgnoredLine

abbrev pub statement_view : Statement → Numbered
statement_view (made.Head h) = head_view h
statement_view (made.Attribute a) = attribute_view a
statement_view (made.Source t) = SourceLine t.items

-- for the numbers of these names, and of all longer lists that begin with them
abbrev pub ForLater : List (List ℕ) → ((List ℕ → ℕ) → Type 0) → Type 0
ForLater names P = (later : List (List ℕ)) → Extends names later → P (number_of later)
