-- What an entry depends on, from what is computed of the blocks around it.
use Rattle.std.proofs.Common.{◌≡◌, ℕ, zero, suc, ◌<◌, ◌≤◌, Bool, true, false, List, [], ◌∷◌, filter, length, map, not, Option, Some, None, refl, ap, sym, ◌∙◌, inl, inr, append-nil, arith}
use Rattle.std.specs.Prelude.{option_map, slice_get, ◌⊎◌}
use Rattle.std.specs.List.{cons_option, filter_map, flat_map}
use Rattle.std.proofs.lemmas.Bool.{cases_lt}
use Rattle.std.proofs.lemmas.Option.{slice_get_past, slice_get_within}
use Rattle.kc_language.specs.Expansion.{enclosing, is_attribute, numbers}
use Rattle.kc_language.specs.Expressions.{Form, least, lesser}
use Rattle.kc_language.specs.Statements.{Numbered, statements}
use Rattle.kc_language.specs.Symbols.{Condition, block_conjuncts, dependency, dependency_in, enclosing_choice, listed, own_dependencies}
use Rattle.kc_language.specs.Texts.{Solution, known}
use Rattle.kc_language.specs.Values.{and_value, condition}
use Rattle.kc_language.specs.declared.expressions.Tri.{Tri, TheVariants.{Y}}
use Rattle.kc_outcome.specs.Explanations as rules
use Rattle.kc_outcome.proofs.ExplanationParts.{dependency_is}
use Rattle.kc_entries.specs.Entries.{lines_in}
use Rattle.kc_entries.specs.StatementViews.{attribute_view, head_view}
use Rattle.kc_entries.specs.declared.entries.AttributeLine.{AttributeLine}
use Rattle.kc_entries.specs.declared.entries.Entries.{Entries}
use Rattle.kc_entries.specs.declared.entries.Entry.{Entry}
use Rattle.kc_entries.proofs.PlaceLemmas.{get-map_numbers, length-map_numbers, there_in}
use Rattle.kc_tree.specs.EntryViews.{entry_count, index_at, index_of, statements_in, statements_of}
use Rattle.kc_tree.specs.Layouts.{condition_at, entry_at, outer_context, own_at, place_of}
use Rattle.kc_tree.specs.declared.layout.Layout.{Layout}
use Rattle.kc_tree.proofs.EntryListLemmas.{filter-entries}
use Rattle.kc_tree.proofs.IndexLemmas.{attributes-is, head-is, head-is-none}
use Rattle.kc_tree.proofs.ListLemmas.{filter-below}
use Rattle.kc_tree.proofs.OuterLemmas.{around-asks, around-mode, context-same, outer-below}
use Rattle.kc_values.specs.AtTable as table
use Rattle.kc_values.specs.declared.table.Table.{Table}
use Rattle.kc_values.proofs.ConditionLemmas.{condition-with_conjuncts}
use Rattle.kc_values.proofs.TriLemmas.{lesser_y}
use Rattle.kc_solve.specs.Tables.{IsTableOf}
use Rattle.kc_explain.specs.LineViews.{lines_of}
use Rattle.kc_explain.specs.PartViews.{parts_value, when_value}
use Rattle.kc_explain.specs.PartsOfExplanations.{dependency_parts}
use Rattle.kc_explain.proofs.LineLemmas.{entry-none}
use Rattle.kc_explain.proofs.PartLemmas.{value-in}

-- ---- Where entries begin is told by the lines alone
abbrev begins : Option Numbered → Bool
begins None = false
begins (Some s) = not (is_attribute s)

no-begin : (o : Option Numbered) (s : Numbered) → o ≡ Some s → is_attribute s ≡ true → begins o ≡ false
no-begin o s h a = ap begins h ∙ ap not a

all-kept : (xs : List ℕ) → filter (λ (k : ℕ). true) xs ≡ xs
all-kept [] = refl
all-kept (x ∷ xs) = ap (λ r. x ∷ r) (all-kept xs)

module _ (es : Entries) where
  abbrev begins-at : ℕ → Bool
  begins-at i = begins (slice_get (statements_in es) i)

  here-by : (k : ℕ) (o : Option Entry) → slice_get es.first_lines.items k ≡ o → k < entry_count es → begins (option_map (λ (y : Entry). head_view y.head) o) ≡ true
  here-by k None h b = let x = there_in es.first_lines.items k b in absurd (let no : None ≡ Some (x.0) = sym h ∙ x.1 in cc)
  here-by k (Some x) h b = ap not (head-is-none x.head)

  here : (k : ℕ) → k < entry_count es → begins-at (index_of es k) ≡ true
  here k b = ap begins (head-is es k) ∙ here-by k (slice_get es.first_lines.items k) refl b

  indices : map (index_of es) (numbers (entry_count es)) ≡ filter begins-at (numbers (length (statements_in es)))
  indices =
      sym (filter-entries es begins-at (λ i s h a. no-begin (slice_get (statements_in es) i) s h a)
      ∙ ap (map (index_of es)) (filter-below (λ k. begins-at (index_of es k)) (λ k. true) (entry_count es) here ∙ all-kept (numbers (entry_count es))))

  index-by : (e : ℕ) (o : Option Entry) → slice_get es.first_lines.items e ≡ o → option_map (λ (x : Entry). index_of es e) o ≡ slice_get (map (index_of es) (numbers (entry_count es))) e
  index-by e None h = sym (past (cases_lt e (entry_count es)))
    where
      past : (e < entry_count es) ⊎ (entry_count es ≤ e) → slice_get (map (index_of es) (numbers (entry_count es))) e ≡ None
      past (inl b) = let x = there_in es.first_lines.items e b in absurd (let no : None ≡ Some (x.0) = sym h ∙ x.1 in cc)
      past (inr b) = let n = length-map_numbers (index_of es) (entry_count es) in slice_get_past (map (index_of es) (numbers (entry_count es))) e (omega (arith, b, n))
  index-by e (Some x) h = sym (get-map_numbers (index_of es) (entry_count es) e (slice_get_within es.first_lines.items e x h))

  index-is : (e : ℕ) → index_at es (suc e) ≡ slice_get (filter begins-at (numbers (length (statements_in es)))) e
  index-is e = index-by e (slice_get es.first_lines.items e) refl ∙ ap (λ is. slice_get is e) indices

pub index-same : (es fs : Entries) → lines_in es ≡ lines_in fs → (at : ℕ) → index_at es at ≡ index_at fs at
index-same es fs h zero = refl
index-same es fs h (suc e) =
    index-is es e
    ∙ ap (λ ls. slice_get (filter (λ i. begins (slice_get (statements ls) i)) (numbers (length (statements ls)))) e) h
    ∙ sym (index-is fs e)

-- ---- The lines of an entry
module _ (s : Solution) where
  abbrev pub asked : AttributeLine → Tri
  asked a = when_value s (dependency_in (attribute_view a.attribute))

  pub own-is : (xs : List AttributeLine) → least (map asked xs) ≡ and_value s.tree (known s) (filter_map dependency_in (statements_of xs))
  own-is [] = refl
  own-is (a ∷ xs) = ap (lesser (asked a)) (own-is xs) ∙ own-by (dependency_in (attribute_view a.attribute))
    where
      own-by : (w : Option Form) → lesser (when_value s w) (and_value s.tree (known s) (filter_map dependency_in (statements_of xs)))
          ≡ and_value s.tree (known s) (cons_option w (filter_map dependency_in (statements_of xs)))
      own-by None = refl
      own-by (Some f) = ap (λ t. lesser t (and_value s.tree (known s) (filter_map dependency_in (statements_of xs)))) (lesser_y _)

-- ---- An entry that is there
module _ (m : Layout) (e : ℕ) (there : e < entry_count m.entries) where
  abbrev ss : List Numbered
  ss = statements_in m.entries

  abbrev i : ℕ
  i = index_of m.entries e

  abbrev around : Condition
  around = record { conjuncts = flat_map (block_conjuncts ss) (enclosing ss i); mode = enclosing_choice ss i }

  around-is : condition_at m (outer_context m (suc e)) ≡ around
  around-is =
      let o = (place_of m (suc e)).outer.0 in
      let low = outer-below m e there in
      let asks = around-asks m e o there refl in
      let mode = around-mode m e o there refl in
      sym (context-same m o (omega (arith, low, there)))
      ∙ (λ j. record { conjuncts = sym asks j; mode = sym mode j })

  pub whole-is : (s : Solution) → lesser (condition s.tree (known s) (condition_at m (outer_context m (suc e)))) (and_value s.tree (known s) (filter_map dependency_in (statements_of (own_at m (suc e)))))
      ≡ condition s.tree (known s) (dependency ss i)
  whole-is s =
      (λ j. lesser (condition s.tree (known s) (around-is j)) (and_value s.tree (known s) (filter_map dependency_in (sym (attributes-is m.entries e) j))))
      ∙ sym (condition-with_conjuncts s.tree (known s) around (own_dependencies ss i))

module _ (l : Layout) (s : Solution) (t : Table) (same : lines_in t.layout.now.entries ≡ lines_in l.entries) where
  abbrev m : Layout
  m = t.layout.now

  abbrev worth : Layout → ℕ → Tri
  worth k at = parts_value s (flat_map (dependency_parts (lines_of k)) (listed (index_at k.entries at)))

  moved : (at : ℕ) → worth m at ≡ worth l at
  moved at = λ j. parts_value s (flat_map (dependency_parts (same j)) (listed (index-same m.entries l.entries same at j)))

  pub none-is : (at : ℕ) → entry_at m at ≡ None → Y ≡ worth l at
  none-is at h = sym (ap (λ o. parts_value s (flat_map (dependency_parts (lines_of m)) (listed o))) (entry-none m at h)) ∙ moved at

  there-is : (e : ℕ) → e < entry_count m.entries → index_at m.entries (suc e) ≡ Some (index_of m.entries e) → condition s.tree (known s) (dependency (statements_in m.entries) (index_of m.entries e)) ≡ worth m (suc e)
  there-is e b h =
      sym (dependency_is (statements_in m.entries) s.tree (known s) (index_of m.entries e))
      ∙ sym (value-in (lines_of m) s (rules.dependency_parts (statements_in m.entries) (index_of m.entries e)))
      ∙ ap (parts_value s) (sym (append-nil (dependency_parts (lines_of m) (index_of m.entries e))))
      ∙ ap (λ o. parts_value s (flat_map (dependency_parts (lines_of m)) (listed o))) (sym h)

  pub some-is : IsTableOf s t → (at : ℕ) (x : Entry) (within own result : Tri) → entry_at m at ≡ Some x → within ≡ table.context t (outer_context m at) →
      own ≡ and_value s.tree (known s) (filter_map dependency_in (statements_of (own_at m at))) → result ≡ lesser within own → result ≡ worth l at
  some-is is zero x within own result h w o r = absurd cc
  some-is is (suc e) x within own result h w o r =
      let b = slice_get_within m.entries.first_lines.items e x h in
      r ∙ (λ j. lesser (w j) (o j))
      ∙ (λ j. lesser (condition (is.tree j) (is.known_is j) (condition_at m (outer_context m (suc e)))) (and_value s.tree (known s) (filter_map dependency_in (statements_of (own_at m (suc e))))))
      ∙ whole-is m e b s
      ∙ there-is e b (ap (option_map (λ (y : Entry). index_of m.entries e)) h)
      ∙ moved (suc e)
