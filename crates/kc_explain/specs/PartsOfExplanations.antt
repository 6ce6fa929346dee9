-- For proofs: Parts of the definitions of Explanations, with names of their own.
use Rattle.std.specs.Prelude.{ℕ, List, [], Option, Some, None, map, filter, if◌then◌else◌, ◌++◌}
use Rattle.std.specs.List.{flat_map}
use Rattle.kc_language.specs.Expansion.{enclosing}
use Rattle.kc_language.specs.Expressions.{Form}
use Rattle.kc_outcome.specs.Explanations as rules
use Rattle.kc_language.specs.Symbols as line_rules
use Rattle.kc_language.specs.Statements.{InputPrompt, Located, Numbered, statements}
use Rattle.kc_language.specs.Symbols.{choice_number, of_block}
use Rattle.kc_language.specs.declared.statements.Block.{Block}
use Rattle.kc_explain.specs.declared.parts.OwnCondition.{OwnCondition}
use Rattle.kc_explain.specs.declared.parts.OwnCondition.TheVariants as own
use Rattle.kc_tree.specs.declared.layout.Layout.{Layout}
use Rattle.kc_tree.specs.declared.rows.EntryId.{EntryId}
use Rattle.kc_explain.specs.LineViews.{at_entry, lines_of}
use Rattle.kc_explain.specs.PartViews.{Part, Said, part_in, worth_parts}

-- the condition of a line, if it is of this kind
abbrev pub read_by : OwnCondition → Numbered → Option Form
read_by own.Depends s = line_rules.dependency_in s
read_by own.Visible s = line_rules.visible_in s

module _ (lines : List (Located Numbered)) where
  -- parts of conditions, each with its line
  abbrev pub located : List rules.ConditionPart → List Part
  located ps = map (part_in lines) ps

  -- the conditions that a block adds; what an entry depends on; the `visible if` conditions of a menu, and of the menus around an entry
  abbrev pub block_parts : ℕ → List Part
  block_parts j = located (rules.block_parts (statements lines) j)

  abbrev pub dependency_parts : ℕ → List Part
  dependency_parts i = located (rules.dependency_parts (statements lines) i)

  abbrev pub visible_parts : ℕ → List Part
  visible_parts j = if of_block (statements lines) Block.Menu j then located (rules.parts_at (statements lines) line_rules.visible_in j) else []

  abbrev pub menus_parts : ℕ → List Part
  menus_parts i = located (flat_map (rules.parts_at (statements lines) line_rules.visible_in) (filter (of_block (statements lines) Block.Menu) (enclosing (statements lines) i)))

  -- the mode that a block adds, if it is a choice
  abbrev pub mode_part : ℕ → Option Part
  mode_part j = if of_block (statements lines) Block.Choice j then Some (part_in lines (record { at = j; asks = rules.ModeOf (choice_number (statements lines) j) })) else None

-- the conditions of the prompt of an entry besides its dependency
abbrev pub shown_parts : Layout → EntryId → Said (InputPrompt Form) → List Part
shown_parts l e p = at_entry l (menus_parts (lines_of l)) e ++ worth_parts p.line (p.what).when
