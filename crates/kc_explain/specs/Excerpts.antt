-- For proofs: Definitions as they are written, part by part.
use Rattle.std.specs.List.{flat_map}
use Rattle.std.specs.Option.{option_map_or}
use Rattle.std.specs.Prelude.{Bool, List, None, Some, [], codes, decimal, drop, false, if◌then◌else◌, not, slice_get, take, true, ℕ, ◌++◌, ◌-◌, ◌∷◌}
use Rattle.kc_language.specs.Expansion.{Files, last_of}
use Rattle.kc_language.specs.Lines.{lines_of_parts}
use Rattle.kc_language.specs.Statements.{Located, Numbered}
use Rattle.kc_language.specs.Symbols.{listed}
use Rattle.kc_outcome.specs.Explanations.{definition_lines, menu_path, statement_count, text_of_lines}
use Rattle.kc_entries.specs.declared.entries.{AttributeLine.{AttributeLine}, Entry.{Entry}}
use Rattle.kc_entries.specs.declared.statement.Attribute.{Attribute}
use Rattle.kc_entries.specs.declared.statement.Attribute.TheVariants as attribute
use Rattle.kc_tree.specs.Layouts.{entry_at, statements_in}
use Rattle.kc_tree.specs.declared.layout.Layout.{Layout}
use Rattle.kc_tree.specs.declared.rows.EntryId.{EntryId}
use Rattle.kc_explain.specs.LineViews.{at_entry, lines_of as all_lines}
use Rattle.kc_explain.specs.Places.{Place, has_place, place_of, with_place}
use Rattle.kc_explain.specs.SourceLines.{comment, lines_of, with_text}

abbrev pub heading : List ℕ → ℕ → List ℕ
heading file number = codes "# " ++ file ++ codes ":" ++ decimal number ++ codes "\n"

-- the line of the last attribute of an entry; whether a help text follows it
abbrev pub last_number : Entry → List AttributeLine → ℕ
last_number first own = option_map_or (λ (a : AttributeLine). a.line) (last_of own) first.line

abbrev pub is_help : Attribute → Bool
is_help a = elim a [ attribute.Help ↦ true | _ ↦ false ]

abbrev pub ends_in_help : List AttributeLine → Bool
ends_in_help own = option_map_or (λ (a : AttributeLine). is_help a.attribute) (last_of own) false

-- the lines of a definition as comments, from those of its file; a whole definition
abbrev pub excerpt_of : List (List ℕ) → ℕ → ℕ → Bool → List ℕ
excerpt_of lines first last has_text = flat_map comment (with_text (take (last - first) (drop (first - 1) lines)
    ++ take (statement_count has_text (drop (last - 1) (lines_of_parts lines))) (drop (last - 1) lines)))

abbrev pub lines_in_file : List (List ℕ) → Entry → List AttributeLine → List ℕ
lines_in_file lines first own = excerpt_of lines first.line (last_number first own) (ends_in_help own)

abbrev pub definition_of : Files → Layout → EntryId → Entry → List AttributeLine → List ℕ
definition_of files l e first own = heading first.file.value.items first.line ++ text_of_lines (codes "# ") (at_entry l (menu_path (statements_in l)) e)
    ++ lines_in_file (lines_of files first.file.value.items) first own

-- the definition of the chapter Explanations at statement i, as comments
abbrev pub definition_at : Files → List (Located Numbered) → ℕ → List ℕ
definition_at files lines i = flat_map (λ l. flat_map comment (definition_lines files lines i l)) (listed (slice_get lines i))

-- whether the place of an entry is not in the list; the list with it; the definitions at these entries whose places are new, each place once
abbrev pub is_new_at : Layout → List Place → EntryId → Bool
is_new_at l seen e = elim (entry_at l e.0) [ None ↦ false | Some x ↦ not (has_place seen (place_of x)) ]

abbrev pub with_place_at : Layout → List Place → EntryId → List Place
with_place_at l seen e = elim (entry_at l e.0) [ None ↦ seen | Some x ↦ with_place seen (place_of x) ]

abbrev pub new_definitions : Files → Layout → List Place → List EntryId → List ℕ
new_definitions files l seen [] = []
new_definitions files l seen (e ∷ es) =
    (if is_new_at l seen e then at_entry l (definition_at files (all_lines l)) e else []) ++ new_definitions files l (with_place_at l seen e) es
