-- What the lines that begin entries have in common, and what attributes have.
use Rattle.std.proofs.Common.{Bool, None, Option, ap, false, length, refl, true, ◌+◌, ◌≡◌}
use Rattle.std.specs.Option.{option_or}
use Rattle.kc_language.specs.{Expansion.{Bracket, NoBracket, bracket, defined_name, is_attribute}, Statements.Numbered, declared.expressions.SymId.SymId}
use Rattle.kc_read.specs.{Progress.{defining_cause, limit_view}, declared.{frame.Frame.Frame, progress.Progress.Progress}}
use Rattle.kc_entries.specs.{PartsOfExpansion.{is_source, nesting_cause}, StatementViews.{attribute_view, head_view}, declared.statement.{Attribute.Attribute, Head.Head}}
use Rattle.kc_entries.specs.declared.statement.Attribute.TheVariants as attribute
use Rattle.kc_entries.specs.declared.statement.Head.TheVariants as head

pub no_attribute : (h : Head) → is_attribute (head_view h) ≡ false
no_attribute (head.Config s) = refl
no_attribute (head.If e) = refl
no_attribute head.EndIf = refl
no_attribute (head.Comment t) = refl
no_attribute (head.Menu t) = refl
no_attribute head.EndMenu = refl
no_attribute head.Choice = refl
no_attribute head.EndChoice = refl
no_attribute (head.MainMenu t) = refl

pub no_source : (h : Head) → is_source (head_view h) ≡ false
no_source (head.Config s) = refl
no_source (head.If e) = refl
no_source head.EndIf = refl
no_source (head.Comment t) = refl
no_source (head.Menu t) = refl
no_source head.EndMenu = refl
no_source head.Choice = refl
no_source head.EndChoice = refl
no_source (head.MainMenu t) = refl

-- whether it is an attribute, its bracket, whether it is a `source` line, the name that it defines
abbrev parts : Numbered → Bool × Bracket × Bool × Option SymId
parts s = (is_attribute s, bracket s, is_source s, defined_name s)

of_attribute : (a : Attribute) → parts (attribute_view a) ≡ (true, NoBracket, false, None)
of_attribute (attribute.Type k p) = refl
of_attribute (attribute.Prompt p) = refl
of_attribute (attribute.Default d) = refl
of_attribute (attribute.Def k d) = refl
of_attribute (attribute.Depends e) = refl
of_attribute (attribute.Visible e) = refl
of_attribute (attribute.Select s w) = refl
of_attribute (attribute.Imply s w) = refl
of_attribute (attribute.Range r) = refl
of_attribute attribute.Help = refl
of_attribute attribute.Modules = refl
of_attribute attribute.Ignored = refl

pub attribute_is : (a : Attribute) → is_attribute (attribute_view a) ≡ true
attribute_is a = ap (λ p. p.0) (of_attribute a)

pub no_bracket : (a : Attribute) → bracket (attribute_view a) ≡ NoBracket
no_bracket a = ap (λ p. p.1) (of_attribute a)

pub is_no_source : (a : Attribute) → is_source (attribute_view a) ≡ false
is_no_source a = ap (λ p. p.2) (of_attribute a)

-- an attribute passes no limit
pub no_limit : (a : Attribute) (f : Frame) (p : Progress) → limit_view (attribute_view a) f p ≡ None
no_limit a f p = λ i. option_or (defining_cause p.defined (ap (λ q. q.3) (of_attribute a) i)) (nesting_cause (f.depth + length f.blocks.items) (no_bracket a i))
