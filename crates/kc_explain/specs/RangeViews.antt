-- For proofs: The `range` lines that stand in the way of a number, line by line.
use Rattle.std.specs.Prelude.{Bool, List, None, Option, Some, [], codes, cond, if◌then◌else◌, ◌++◌, ℕ, ℤ}
use Rattle.std.specs.List.{flat_map}
use Rattle.kc_language.specs.{Expressions.Form, Statements.{Located, Numbered}, Symbols.{Bounds, TreeFacts, listed, range_in, same_type}, Values.{facts, name, number_as, type_in}}
use Rattle.kc_language.specs.declared.expressions.{SymId.SymId, SymbolType.{SymbolType, TheVariants.{Undefined}}}
use Rattle.kc_entries.specs.{Entries.attribute_line, declared.entries.{AttributeLine.AttributeLine, Entry.Entry}}
use Rattle.kc_tree.specs.declared.{layout.Layout.Layout, rows.EntryId.EntryId}
use Rattle.kc_explain.specs.FactTexts.{plain_range_words}
use Rattle.kc_explain.specs.LineViews.{own_of}
use Rattle.kc_explain.specs.PartViews.{Said}
use Rattle.kc_explain.specs.RangeLines.{allows}
use Rattle.kc_explain.specs.declared.range_lines.Wanted.{Wanted}

-- the number that a name without a type is
abbrev pub name_number : TreeFacts → SymbolType → SymId → Option ℤ
name_number tree kind s = if same_type (type_in (facts tree s)) Undefined then number_as kind (name tree s) else None

module _ (is_raw : Bool) (tree : TreeFacts) (w : Wanted) where
  -- the line of a range, unless it always allows the number
  abbrev pub told : Said (Bounds × Option Form) → List ℕ
  told r = cond (allows tree w.symbol_type w.number.now (r.what).0) [] (w.lead.now ++ plain_range_words is_raw tree r ++ codes "\n")

  -- that of a line, if it is a range; those of an attribute and of an entry
  abbrev pub line_told : Located Numbered → List ℕ
  line_told l = flat_map (λ (x : Bounds × Option Form). told (record { line = Some l; what = x })) (listed (range_in l.statement))

  abbrev pub attribute_told : Entry → AttributeLine → List ℕ
  attribute_told e a = line_told (attribute_line e.file.value.items a.line a.attribute)

  abbrev pub entry_told : Layout → EntryId → List ℕ
  entry_told l e = flat_map line_told (own_of l e.0)
