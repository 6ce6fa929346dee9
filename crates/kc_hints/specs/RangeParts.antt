-- For proofs: The range lines of an entry.
use Rattle.std.specs.List.{flat_map}
use Rattle.std.specs.Prelude.{List, [], if◌then◌else◌, ℕ, ◌∷◌}
use Rattle.kc_language.specs.Expansion.{defined_name}
use Rattle.kc_language.specs.Symbols.{is_symbol_of}
use Rattle.kc_language.specs.declared.expressions.SymId.{SymId}
use Rattle.kc_entries.specs.StatementViews.{attribute_view, head_view}
use Rattle.kc_entries.specs.declared.entries.{AttributeLine.AttributeLine, Entry.Entry}
use Rattle.kc_hints.specs.Facts.{is_range}
use Rattle.kc_hints.specs.declared.ranges.RangePlace.{RangePlace}

abbrev pub place_view : RangePlace → List ℕ × ℕ
place_view p = (p.file.now, p.line)

-- the location of a line of an entry, if it gives a range; those of an entry, if it is one of the symbol
abbrev pub place_if : Entry → AttributeLine → List (List ℕ × ℕ)
place_if e a = if is_range (attribute_view a.attribute) then (e.file.value.items, a.line) ∷ [] else []

abbrev pub entry_places : SymId → Entry → List AttributeLine → List (List ℕ × ℕ)
entry_places s e attributes = if is_symbol_of s (defined_name (head_view e.head)) then flat_map (place_if e) attributes else []
