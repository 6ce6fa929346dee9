-- For proofs: Parts of conditions and contents of lines, each with its line, without their layout in memory.
use Rattle.std.specs.Prelude.{List, map, Option, Some, option_map, slice_get}
use Rattle.std.specs.List.{filter_map, flat_map}
use Rattle.kc_expr.specs.Form.{form_of}
use Rattle.kc_language.specs.Expressions.{Form, least, lesser, value}
use Rattle.kc_language.specs.declared.expressions.Tri.{Tri}
use Rattle.kc_outcome.specs.Explanations as rules
use Rattle.kc_language.specs.Statements.{InputPrompt, Located, Numbered}
use Rattle.kc_language.specs.Symbols.{listed}
use Rattle.kc_language.specs.Texts.{Solution, known}
use Rattle.kc_language.specs.Values.{choice_at, mode_of}
use Rattle.kc_entries.specs.StatementViews.{input_prompt_view}
use Rattle.kc_explain.specs.LineViews.{line_view}
use Rattle.kc_explain.specs.declared.parts.Asked.{Asked}
use Rattle.kc_explain.specs.declared.parts.Asked.TheVariants as asked
use Rattle.kc_explain.specs.declared.parts.ConditionPart.{ConditionPart}
use Rattle.kc_explain.specs.declared.parts.PromptLine.{PromptLine}

-- a part of a condition with its line
pub record Part : Type 0 where
  pub line : Option (Located Numbered)
  pub asks : rules.Asked

-- the content of a line
pub record Said (X : Type 0) : Type 0 where
  pub line : Option (Located Numbered)
  pub what : X

-- ---- As the code has them
abbrev pub asked_view : Asked → rules.Asked
asked_view (asked.Worth e) = rules.Worth (form_of e.now)
asked_view (asked.ModeOf k) = rules.ModeOf k

abbrev pub part_view : ConditionPart → Part
part_view p = record { line = Some (line_view p.line); asks = asked_view p.asks }

abbrev pub prompt_said : PromptLine → Said (InputPrompt Form)
prompt_said p = record { line = Some (line_view p.line); what = input_prompt_view p.prompt.now }

-- ---- From the lines of a tree
abbrev pub part_in : List (Located Numbered) → rules.ConditionPart → Part
part_in lines p = record { line = slice_get lines p.at; asks = p.asks }

abbrev pub said_in : {X : Type 0} → List (Located Numbered) → rules.Said X → Said X
said_in lines s = record { line = slice_get lines s.at; what = s.what }

-- ---- From one line, and from those of an entry
-- the content that `read` accepts
abbrev pub said_one : {X : Type 0} → (Numbered → Option X) → Located Numbered → Option (Said X)
said_one read l = option_map (λ x. record { line = Some l; what = x }) (read l.statement)

abbrev pub said_of : {X : Type 0} → (Numbered → Option X) → List (Located Numbered) → List (Said X)
said_of read own = filter_map (said_one read) own

-- the parts of a line with this condition; the parts of lines
abbrev pub worth_parts : Option (Located Numbered) → Option Form → List Part
worth_parts line w = map (λ e. record { line = line; asks = rules.Worth e }) (listed w)

abbrev pub asked_of : (Numbered → Option Form) → List (Located Numbered) → List Part
asked_of read own = flat_map (λ (l : Located Numbered). worth_parts (Some l) (read l.statement)) own

-- ---- Values
module _ (solution : Solution) where
  -- the value of a part, from its content; of a condition with these parts; of the own condition of a line
  abbrev pub asked_value : rules.Asked → Tri
  asked_value asks = elim asks [
    | rules.Worth e ↦ value (known solution) solution.tree.modules e
    | rules.ModeOf k ↦ mode_of solution.tree (known solution) (choice_at solution.tree k)
  ]

  abbrev pub parts_value : List Part → Tri
  parts_value ps = least (map (λ (p : Part). asked_value p.asks) ps)

  abbrev pub when_value : Option Form → Tri
  when_value w = least (map (value (known solution) solution.tree.modules) (listed w))

  -- the value of a line with this condition, given the value of the dependency
  abbrev pub value_under : Tri → Option Form → Tri
  value_under t w = lesser t (when_value w)
