-- The range lines of entries.
use Rattle.std.proofs.Common.{◌≡◌, ℕ, ◌+◌, List, [], ◌∷◌, ◌++◌, Bool, true, false, ◌&&◌, if◌then◌else◌, map, drop, refl, sym, ap, ◌∙◌, append_assoc}
use Rattle.std.specs.List.{flat_map}
use Rattle.kc_language.specs.Expansion.{defined_name, is_attribute}
use Rattle.kc_language.specs.Statements.{Located, Numbered}
use Rattle.kc_language.specs.Symbols.{is_symbol_of}
use Rattle.kc_language.specs.declared.expressions.SymId.{SymId}
use Rattle.kc_entries.specs.Entries.{attribute_line, first_line, lines_from, lines_of, own_lines}
use Rattle.kc_entries.specs.StatementViews.{attribute_view, head_view}
use Rattle.kc_entries.specs.declared.entries.{AttributeLine.AttributeLine, Entries.Entries, Entry.Entry}
use Rattle.kc_entries.specs.declared.statement.{Attribute.{Attribute}, Head.{Head}}
use Rattle.kc_entries.specs.declared.statement.Attribute.TheVariants as attribute
use Rattle.kc_entries.specs.declared.statement.Head.TheVariants as head
use Rattle.kc_hints.specs.Facts.{is_range, line_place, range_lines, range_places}
use Rattle.kc_hints.specs.RangeParts.{entry_places, place_if}

begins : (h : Head) → is_attribute (head_view h) ≡ false
begins (head.Config s) = refl
begins (head.If e) = refl
begins head.EndIf = refl
begins (head.Comment t) = refl
begins (head.Menu t) = refl
begins head.EndMenu = refl
begins head.Choice = refl
begins head.EndChoice = refl
begins (head.MainMenu t) = refl

belongs : (a : Attribute) → is_attribute (attribute_view a) ≡ true
belongs (attribute.Type k p) = refl
belongs (attribute.Prompt p) = refl
belongs (attribute.Default d) = refl
belongs (attribute.Def k d) = refl
belongs (attribute.Depends e) = refl
belongs (attribute.Visible e) = refl
belongs (attribute.Select s w) = refl
belongs (attribute.Imply s w) = refl
belongs (attribute.Range r) = refl
belongs attribute.Help = refl
belongs attribute.Modules = refl
belongs attribute.Ignored = refl

-- a line more of an entry
own_line : (s : SymId) (own ranges : Bool) (l : Located Numbered) (ls : List (Located Numbered)) → is_attribute l.statement ≡ true → is_range l.statement ≡ ranges →
    map line_place (range_lines s own (l ∷ ls)) ≡ (if own && ranges then line_place l ∷ [] else []) ++ map line_place (range_lines s own ls)
own_line s true true l ls is range = rw (is, range) refl
own_line s true false l ls is range = rw (is, range) refl
own_line s false ranges l ls is range = rw is refl

-- the lines of an entry
own_places : (s : SymId) (e : Entry) (own : Bool) (attributes : List AttributeLine) (rest : List (Located Numbered)) →
    map line_place (range_lines s own (own_lines e attributes ++ rest)) ≡ (if own then flat_map (place_if e) attributes else []) ++ map line_place (range_lines s own rest)
own_places s e true [] rest = refl
own_places s e false [] rest = refl
own_places s e true (a ∷ attributes) rest =
    own_line s true (is_range (attribute_view a.attribute)) (attribute_line e.file.value.items a.line a.attribute) (own_lines e attributes ++ rest) (belongs a.attribute) refl ∙ ap (λ l. place_if e a ++ l) (own_places s e true attributes rest)
    ∙ sym (append_assoc (place_if e a) (flat_map (place_if e) attributes) (map line_place (range_lines s true rest)))
own_places s e false (a ∷ attributes) rest =
    own_line s false (is_range (attribute_view a.attribute)) (attribute_line e.file.value.items a.line a.attribute) (own_lines e attributes ++ rest) (belongs a.attribute) refl ∙ own_places s e false attributes rest

-- entries begin anew
anew : (s : SymId) (own : Bool) (entries : List Entry) (attributes : List AttributeLine) → range_lines s own (lines_of entries attributes) ≡ range_lines s false (lines_of entries attributes)
anew s own [] attributes = refl
anew s own (e ∷ entries) attributes = rw (begins e.head) refl

-- an entry, and those behind it
pub entry_ranges : (s : SymId) (es : Entries) (k : ℕ) (e : Entry) (attributes : List AttributeLine) →
    range_places s (first_line e ∷ own_lines e attributes ++ lines_from es k) ≡ entry_places s e attributes ++ range_places s (lines_from es k)
entry_ranges s es k e attributes =
    let own = is_symbol_of s (defined_name (head_view e.head)) in
    rw (begins e.head)
    (own_places s e own attributes (lines_from es k) ∙ ap (λ l. entry_places s e attributes ++ map line_place l) (anew s own (drop k es.first_lines.items) es.attributes.items))
