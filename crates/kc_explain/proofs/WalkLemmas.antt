-- Walks along a layout: over the definitions of a symbol, and outward over the blocks around an entry.
use Rattle.std.proofs.Common.{◌≡◌, ℕ, zero, suc, ◌+◌, ◌<◌, ◌≤◌, true, false, List, [], ◌∷◌, ◌++◌, filter, length, map, reverse, Option, Some, None, refl, ap, sym, ◌∙◌, subst, arith, append_assoc, inl, inr}
use Rattle.std.specs.List.{flat_map, slice_get}
use Rattle.std.specs.Prelude.{◌⊎◌, is_some, option_map}
use Rattle.std.proofs.lemmas.Bool.{cases_lt}
use Rattle.std.proofs.lemmas.List.{append-nil, map-append, reverse-append}
use Rattle.std.proofs.lemmas.Option.{slice_get-map, slice_get_past}
use Rattle.kc_language.specs.declared.expressions.SymId.{SymId}
use Rattle.kc_language.specs.Expansion.{enclosing}
use Rattle.kc_outcome.specs.Explanations.{choice_entry}
use Rattle.kc_language.specs.Symbols.{definitions_of, is_symbol_of, listed}
use Rattle.kc_entries.specs.PartsOfSymbols.{first_of}
use Rattle.kc_entries.proofs.ElementLemmas.{same_is}
use Rattle.kc_entries.proofs.PlaceLemmas.{there_in}
use Rattle.kc_entries.specs.declared.entries.Entry.{Entry}
use Rattle.kc_tree.specs.EntryViews.{begins_choice, definitions_from, entry_count, entry_numbers, entry_symbol, index_of}
use Rattle.kc_tree.specs.Layouts.{definitions_at, index_at, place_of, statements_in}
use Rattle.kc_tree.specs.Stored.{stored, unstored}
use Rattle.kc_tree.specs.declared.layout.Layout.{Layout}
use Rattle.kc_tree.specs.declared.rows.Choice.{Choice}
use Rattle.kc_tree.specs.declared.rows.EntryId.{EntryId}
use Rattle.kc_tree.specs.declared.rows.EntryPlace.{EntryPlace}
use Rattle.kc_tree.specs.declared.rows.Symbol.{Symbol}
use Rattle.kc_tree.proofs.ChoiceLemmas.{choice-at, choices-count}
use Rattle.kc_tree.proofs.DefinitionLemmas.{symbol-by}
use Rattle.kc_tree.proofs.EntryListLemmas.{choice-lines, definitions-at}
use Rattle.kc_tree.proofs.IndexLemmas.{index-there}
use Rattle.kc_tree.proofs.LayoutWalks.{IsDefinition, IsDefinitionAt, definition-next, definition-next-at}
use Rattle.kc_tree.proofs.OuterLemmas.{entry-there, inside, outer-below, outermost, place-past}
use Rattle.kc_tree.proofs.WalkLemmas.{IsFirst, first-there, rest-at-first}
use Rattle.kc_explain.specs.LineViews.{AreAt}

pub map-reverse : {X Y : Type 0} (v : X → Y) (xs : List X) → map v (reverse xs) ≡ reverse (map v xs)
map-reverse v [] = refl
map-reverse v (x ∷ xs) =
    ap (map v) (reverse-append (x ∷ []) xs) ∙ map-append v (reverse xs) (x ∷ []) ∙ ap (λ ys. ys ++ v x ∷ []) (map-reverse v xs) ∙ sym (reverse-append (v x ∷ []) (map v xs))

-- one more at the end of a list that is read the other way
pub reversed-more : {X Y : Type 0} (v : X → Y) (all : List X) (x : X) (front whole : List Y) → (front ++ v x ∷ []) ++ reverse (map v all) ≡ whole →
    front ++ reverse (map v (all ++ x ∷ [])) ≡ whole
reversed-more v all x front whole h =
    ap (λ r. front ++ reverse r) (map-append v all (x ∷ [])) ∙ ap (λ r. front ++ r) (reverse-append (map v all) (v x ∷ []))
    ∙ sym (append_assoc front (v x ∷ []) (reverse (map v all))) ∙ h

-- ---- The definitions of a symbol
module _ (l : Layout) (s : SymId) where
  passing : (k : ℕ) → is_symbol_of s (entry_symbol l.entries k) ≡ true → entry_symbol l.entries k ≡ Some s
  passing k p =
      let t = symbol-by s (entry_symbol l.entries k) p in
      t.1 ∙ ap Some (same_is s (t.0) (sym (ap (is_symbol_of s) (t.1)) ∙ p))

  first-is : (k : ℕ) → unstored (stored (first_of (definitions_from l.entries s 0))) ≡ Some k → IsDefinition l s k
  first-is k u =
      let f : IsFirst (λ k. is_symbol_of s (entry_symbol l.entries k)) (entry_count l.entries) 0 k = first-there (λ k. is_symbol_of s (entry_symbol l.entries k)) (entry_count l.entries) 0 k u in
      record { there = f.below; symbol_is = passing k f.passes }

  -- a symbol with a row, and one without
  pub first-some : (row : Symbol) → Some row ≡ slice_get l.symbols.items s.0 → row.first.0 ≡ stored (first_of (definitions_from l.entries s 0))
  first-some row h = (l.laid.symbols_are s.0 row (sym h)).first

  pub first-none : None ≡ slice_get l.symbols.items s.0 → 0 ≡ stored (first_of (definitions_from l.entries s 0))
  first-none h = by (first_of (definitions_from l.entries s 0)) refl
    where
      by : (o : Option ℕ) → first_of (definitions_from l.entries s 0) ≡ o → 0 ≡ stored o
      by None e = refl
      by (Some k) e =
          let d = first-is k (ap (λ o. unstored (stored o)) e) in
          let row = there_in l.symbols.items s.0 (l.laid.symbols_there k s d.symbol_is) in
          absurd (let no : None ≡ Some (row.0) = h ∙ row.1 in cc)

  -- what was found so far, and what is left from an entry on
  pub record Walks (at : ℕ) (all : List EntryId) : Type 0 where
    pub next : IsDefinitionAt l s at
    pub found : map (λ (e : EntryId). index_at l e.0) all ++ map (λ k. Some (index_of l.entries k)) (definitions_at l s at) ≡ map Some (definitions_of (statements_in l) s)

  map-map : (xs : List ℕ) → map Some (map (index_of l.entries) xs) ≡ map (λ k. Some (index_of l.entries k)) xs
  map-map [] = refl
  map-map (x ∷ xs) = ap (λ r. Some (index_of l.entries x) ∷ r) (map-map xs)

  pub walk-begins : (at : ℕ) (all : List EntryId) → at ≡ stored (first_of (definitions_from l.entries s 0)) → all ≡ [] → Walks at all
  walk-begins at all e n =
      let rest : definitions_at l s at ≡ definitions_from l.entries s 0 = ap (definitions_at l s) e ∙ rest-at-first (λ k. is_symbol_of s (entry_symbol l.entries k)) (entry_count l.entries) 0 in
      record {
        next = λ k u. first-is k (ap unstored (sym e) ∙ u);
        found = ap (λ xs. map (λ (e : EntryId). index_at l e.0) xs ++ map (λ k. Some (index_of l.entries k)) (definitions_at l s at)) n
            ∙ ap (map (λ k. Some (index_of l.entries k))) rest ∙ sym (map-map (definitions_from l.entries s 0)) ∙ ap (map Some) (sym (definitions-at l.entries s));
      }

  index-is : (k : ℕ) → IsDefinition l s k → index_at l (suc k) ≡ Some (index_of l.entries k)
  index-is k d = let x = entry-there l k d.there in index-there l.entries k (x.0) (x.1)

  walk-on : (k : ℕ) (at : EntryId) (all : List EntryId) → at.0 ≡ suc k → Walks (suc k) all → Walks (place_of l (suc k)).next.0 (all ++ at ∷ [])
  walk-on k at all e w =
      let d = w.next k refl in
      let next = (place_of l (suc k)).next.0 in
      record {
        next = definition-next-at l s k d;
        found = ap (λ r. r ++ map (λ k. Some (index_of l.entries k)) (definitions_at l s (place_of l (suc k)).next.0)) (map-append (λ (e : EntryId). index_at l e.0) all (at ∷ []))
            ∙ append_assoc (map (λ (e : EntryId). index_at l e.0) all) (index_at l at.0 ∷ []) (map (λ k. Some (index_of l.entries k)) (definitions_at l s (place_of l (suc k)).next.0))
            ∙ ap (λ o. map (λ (e : EntryId). index_at l e.0) all ++ o ∷ map (λ k. Some (index_of l.entries k)) (definitions_at l s (place_of l (suc k)).next.0)) (ap (index_at l) e ∙ index-is k d)
            ∙ ap (λ ks. map (λ (e : EntryId). index_at l e.0) all ++ map (λ k. Some (index_of l.entries k)) ks) (sym (definition-next l s k d))
            ∙ w.found;
      }

  pub walk-goes : (n next : ℕ) (at : EntryId) (all new : List EntryId) → is_some (unstored n) ≡ true → at.0 ≡ n → Walks n all → next ≡ (place_of l n).next.0 → new ≡ all ++ at ∷ [] → Walks next new
  walk-goes zero next at all new some e w g m = absurd cc
  walk-goes (suc k) next at all new some e w g m = subst (λ p. Walks p new) (sym g) (subst (Walks (place_of l (suc k)).next.0) (sym m) (walk-on k at all e w))

  pub walk-shorter : (n next : ℕ) (all : List EntryId) → is_some (unstored n) ≡ true → Walks n all → next ≡ (place_of l n).next.0 → length (definitions_at l s next) < length (definitions_at l s n)
  walk-shorter zero next all some w g = absurd cc
  walk-shorter (suc k) next all some w g =
      let longer = ap length (definition-next l s k (w.next k refl)) in
      let same = ap (λ p. length (definitions_at l s p)) g in
      omega (arith, longer, same)

  pub walk-ends : (n : ℕ) (all : List EntryId) → is_some (unstored n) ≡ false → Walks n all → AreAt l all (definitions_of (statements_in l) s)
  walk-ends zero all none w = sym (append-nil (map (λ (e : EntryId). index_at l e.0) all)) ∙ w.found
  walk-ends (suc k) all none w = absurd cc

-- ---- The blocks around an entry
module _ (l : Layout) where
  -- those around a block, and the block
  abbrev pub blocks : Option ℕ → List ℕ
  blocks o = elim o [ None ↦ [] | Some j ↦ enclosing (statements_in l) j ++ j ∷ [] ]

  -- what was found so far around an entry, the innermost block first, and what is left from a block on
  pub record Leaves (target : List ℕ) (at : ℕ) (all : List EntryId) : Type 0 where
    pub there : at ≤ entry_count l.entries
    pub found : map Some (blocks (index_at l at)) ++ reverse (map (λ (e : EntryId). index_at l e.0) all) ≡ map Some target

  -- the block around an entry that is there
  pub record IsOuter (at outer : ℕ) : Type 0 where
    pub there : outer ≤ entry_count l.entries
    pub around : (e : ℕ) → at ≡ suc e → blocks (index_at l outer) ≡ enclosing (statements_in l) (index_of l.entries e)

  outer-by : (e o : ℕ) → e < entry_count l.entries → (place_of l (suc e)).outer.0 ≡ o → IsOuter (suc e) o
  outer-by e zero h q = record {
    there = omega arith;
    around = λ f g. let same : e ≡ f = omega (arith, g) in sym (outermost l e h q) ∙ ap (λ k. enclosing (statements_in l) (index_of l.entries k)) same;
  }
  outer-by e (suc o) h q =
      let n = inside l e o h q in
      let y = entry-there l o n.there in
      let below = n.there in
      record {
        there = omega (arith, below);
        around = λ f g. let same : e ≡ f = omega (arith, g) in
            ap blocks (index-there l.entries o (y.0) (y.1)) ∙ sym n.outside ∙ ap (λ k. enclosing (statements_in l) (index_of l.entries k)) same;
      }

  pub outer-is : (e : ℕ) → e < entry_count l.entries → IsOuter (suc e) (place_of l (suc e)).outer.0
  outer-is e h = outer-by e (place_of l (suc e)).outer.0 h refl

  index-at : (e : ℕ) → e < entry_count l.entries → index_at l (suc e) ≡ Some (index_of l.entries e)
  index-at e h = let y = entry-there l e h in index-there l.entries e (y.0) (y.1)

  leaves-by : (n : ℕ) (o : EntryId) (all : List EntryId) → (n < entry_count l.entries) ⊎ (entry_count l.entries ≤ n) → o.0 ≡ (place_of l (suc n)).outer.0 → all ≡ [] →
      Leaves (flat_map (enclosing (statements_in l)) (listed (index_at l (suc n)))) o.0 all
  leaves-by n o all (inl h) q m =
      let is = outer-is n h in
      let bound = is.there in
      record {
        there = omega (arith, bound, q);
        found = ap (λ xs. map Some (blocks (index_at l o.0)) ++ reverse (map (λ (e : EntryId). index_at l e.0) xs)) m
            ∙ append-nil (map Some (blocks (index_at l o.0)))
            ∙ ap (map Some) (ap (λ p. blocks (index_at l p)) q ∙ is.around n refl ∙ sym (ap (λ i. flat_map (enclosing (statements_in l)) (listed i)) (index-at n h) ∙ append-nil (enclosing (statements_in l) (index_of l.entries n))));
      }
  leaves-by n o all (inr h) q m =
      let top : o.0 ≡ 0 = q ∙ ap (λ (p : EntryPlace). p.outer.0) (place-past l n h) in
      record {
        there = omega (arith, top);
        found = ap (λ xs. map Some (blocks (index_at l o.0)) ++ reverse (map (λ (e : EntryId). index_at l e.0) xs)) m
            ∙ append-nil (map Some (blocks (index_at l o.0)))
            ∙ ap (map Some) (ap (λ p. blocks (index_at l p)) top
            ∙ sym (ap (λ (x : Option Entry). flat_map (enclosing (statements_in l)) (listed (option_map (λ (y : Entry). index_of l.entries n) x))) (slice_get_past l.entries.first_lines.items n h)));
      }

  pub leaves-begins : (n : ℕ) (o : EntryId) (all : List EntryId) → o.0 ≡ (place_of l n).outer.0 → all ≡ [] →
      Leaves (flat_map (enclosing (statements_in l)) (listed (index_at l n))) o.0 all
  leaves-begins zero o all q m = record {
    there = omega (arith, q);
    found = ap (λ xs. map Some (blocks (index_at l o.0)) ++ reverse (map (λ (e : EntryId). index_at l e.0) xs)) m
        ∙ append-nil (map Some (blocks (index_at l o.0))) ∙ ap (λ p. map Some (blocks (index_at l p))) q;
  }
  leaves-begins (suc n) o all q m = leaves-by n o all (cases_lt n (entry_count l.entries)) q m

  module _ (target : List ℕ) where
    leaves-on : (e : ℕ) (at : EntryId) (all : List EntryId) → at.0 ≡ suc e → Leaves target (suc e) all → Leaves target (place_of l (suc e)).outer.0 (all ++ at ∷ [])
    leaves-on e at all q w =
        let bound = w.there in
        let here : e < entry_count l.entries = omega (arith, bound) in
        let is = outer-is e here in
        record {
          there = is.there;
          found = reversed-more (λ (e : EntryId). index_at l e.0) all at (map Some (blocks (index_at l (place_of l (suc e)).outer.0))) (map Some target)
              (ap (λ xs. (map Some xs ++ index_at l at.0 ∷ []) ++ reverse (map (λ (e : EntryId). index_at l e.0) all)) (is.around e refl)
              ∙ ap (λ o. (map Some (enclosing (statements_in l) (index_of l.entries e)) ++ o ∷ []) ++ reverse (map (λ (e : EntryId). index_at l e.0) all)) (ap (index_at l) q ∙ index-at e here)
              ∙ ap (λ xs. xs ++ reverse (map (λ (e : EntryId). index_at l e.0) all)) (sym (map-append Some (enclosing (statements_in l) (index_of l.entries e)) (index_of l.entries e ∷ [])))
              ∙ ap (λ o. map Some (blocks o) ++ reverse (map (λ (e : EntryId). index_at l e.0) all)) (sym (index-at e here))
              ∙ w.found);
        }

    pub leaves-goes : (n next : ℕ) (at : EntryId) (all new : List EntryId) → is_some (unstored n) ≡ true → at.0 ≡ n → Leaves target n all → next ≡ (place_of l n).outer.0 →
        new ≡ all ++ at ∷ [] → Leaves target next new
    leaves-goes zero next at all new some e w g m = absurd cc
    leaves-goes (suc k) next at all new some e w g m =
        subst (λ p. Leaves target p new) (sym g) (subst (Leaves target (place_of l (suc k)).outer.0) (sym m) (leaves-on k at all e w))

    pub leaves-lower : (n next : ℕ) (all : List EntryId) → is_some (unstored n) ≡ true → Leaves target n all → next ≡ (place_of l n).outer.0 → next < n
    leaves-lower zero next all some w g = absurd cc
    leaves-lower (suc k) next all some w g =
        let bound = w.there in
        let low = outer-below l k (omega (arith, bound)) in
        omega (arith, low, g)

    pub leaves-ends : (n : ℕ) (all new : List EntryId) → is_some (unstored n) ≡ false → Leaves target n all → new ≡ reverse all → AreAt l new target
    leaves-ends zero all new none w m = ap (map (λ (e : EntryId). index_at l e.0)) m ∙ map-reverse (λ (e : EntryId). index_at l e.0) all ∙ w.found
    leaves-ends (suc k) all new none w m = absurd cc

-- ---- The entry of the choice with a number
past-none : {X : Type 0} (xs : List X) (i : ℕ) → slice_get xs i ≡ None → length xs ≤ i
past-none xs i e = by (cases_lt i (length xs))
  where
    by : (i < length xs) ⊎ (length xs ≤ i) → length xs ≤ i
    by (inl h) = let x = there_in xs i h in absurd (let no : None ≡ Some (x.0) = sym e ∙ x.1 in cc)
    by (inr h) = h

module _ (l : Layout) (k : ℕ) where
  pub lines-are : choice_entry (statements_in l) k ≡ listed (option_map (index_of l.entries) (slice_get (filter (begins_choice l.entries) (entry_numbers l.entries)) k))
  lines-are =
      ap (λ xs. listed (slice_get xs k)) (choice-lines l.entries)
      ∙ ap listed (slice_get-map (index_of l.entries) (filter (begins_choice l.entries) (entry_numbers l.entries)) k)

  pub choice-some : (c : Choice) → Some c ≡ slice_get l.choices.items k → AreAt l (c.entry ∷ []) (choice_entry (statements_in l) k)
  choice-some c h =
      let is = choice-at l k c (sym h) in
      ap (λ o. o ∷ []) (ap (index_at l) (is.1).entry ∙ index-at l (is.0) (is.1).there)
      ∙ ap (λ o. map Some (listed (option_map (index_of l.entries) o))) (sym (is.1).at)
      ∙ ap (map Some) (sym lines-are)

  pub choice-none : None ≡ slice_get l.choices.items k → AreAt l [] (choice_entry (statements_in l) k)
  choice-none h =
      let past = past-none l.choices.items k (sym h) in
      ap (λ o. map Some (listed (option_map (index_of l.entries) o))) (sym (slice_get_past (filter (begins_choice l.entries) (entry_numbers l.entries)) k (omega (arith, past, choices-count l))))
      ∙ ap (map Some) (sym lines-are)
