-- For proofs: The lines that select and imply symbols, as they are appended to those before.
use Rattle.std.specs.{List.flat_map, Prelude.{List, Option, Some, [], filter, if◌then◌else◌, length, map, slice_get, slice_set, suc, ℕ, ◌++◌, ◌+◌, ◌<◌, ◌∷◌, ◌≡◌}}
use Rattle.kc_language.specs.{Expansion.numbers, Expressions.Form, Statements.Numbered, Symbols.target_of, declared.{expressions.SymId.SymId, symbols.SelectOrImply.SelectOrImply}}
use Rattle.kc_language.specs.declared.symbols.SelectOrImply.TheVariants as word
use Rattle.kc_entries.specs.{Entries.{BeginsAt, start_at}, declared.entries.{Entries.Entries, EntryLines.EntryLines}}
use Rattle.kc_tree.specs.{EntryViews.entry_numbers, Places.{AreChained, AreSymbolRows, effects_at, has_effect_at}, declared.rows.{AttributeId.AttributeId, EntryId.EntryId, Selector.Selector, SelectorId.SelectorId, Symbol.Symbol}}
use Rattle.kc_build.specs.SymbolRows.{can_be_target}

-- each symbol that a line selects or implies has a number below this one
abbrev pub AreTargetsBelow : ℕ → List Numbered → Type 0
AreTargetsBelow count ss = (i : ℕ) (l : Numbered) (t : SelectOrImply × SymId × Option Form) → slice_get ss i ≡ Some l → target_of l ≡ Some t → t.1.0 < count

-- the last line of a kind that names a symbol, in its row; the row with another last line
abbrev pub last_in : SelectOrImply → Symbol → SelectorId
last_in word.Select row = row.last_select
last_in word.Imply row = row.last_imply

abbrev pub with_last : SelectOrImply → SelectorId → Symbol → Symbol
with_last word.Select id row = record row { last_select = id }
with_last word.Imply id row = record row { last_imply = id }

-- a line that selects or implies the symbol s is appended, if it has an effect
pub record IsAdded (entry : EntryId) (attribute : AttributeId) (w : SelectOrImply) (s : ℕ) (rows : List Symbol) (lines : List Selector)
    (new_rows : List Symbol) (new_lines : List Selector) : Type 0 where
  pub row : Symbol
  pub at : slice_get rows s ≡ Some row
  pub rows_are : new_rows ≡ slice_set rows s (if can_be_target row then with_last w (record { 0 = suc (length lines) }) row else row)
  pub lines_are : new_lines ≡ lines ++ (if can_be_target row then record { entry = entry; attribute = attribute; next = last_in w row } ∷ [] else [])

module _ (es : Entries) where
  -- the lines with an effect among the first j attributes of an entry
  abbrev pub effects_before : ℕ → ℕ → List (ℕ × ℕ)
  effects_before e j = map (λ k. (suc e, suc (start_at es e + k))) (filter (has_effect_at es e) (numbers j))

  -- these lines are chained, and the rows of the symbols have the last ones
  pub record AreLaid (pairs : List (ℕ × ℕ)) (count : ℕ) (rows : List Symbol) (lines : List Selector) : Type 0 where
    pub pairs_are : map (λ (r : Selector). (r.entry.0, r.attribute.0)) lines ≡ pairs
    pub chained : AreChained es lines
    pub rows_are : AreSymbolRows es lines rows
    pub same : length rows ≡ count

  -- all lines with an effect
  abbrev pub AreSelectors : ℕ → List Symbol → List Selector → Type 0
  AreSelectors count rows lines = AreLaid (flat_map (effects_at es) (entry_numbers es)) count rows lines

-- the lines of an entry with an effect are appended
abbrev pub Adds : EntryId → EntryLines → List Symbol → List Selector → List Symbol → List Selector → Type 0
Adds entry own rows lines new_rows new_lines =
    (es : Entries) (e : ℕ) (pairs : List (ℕ × ℕ)) (count : ℕ) → entry.0 ≡ suc e → BeginsAt es e own → AreLaid es pairs count rows lines →
    AreLaid es (pairs ++ effects_before es e (length own.attributes.now)) count new_rows new_lines
