-- What the menus around an entry ask of what is visible, by the number that its place has.
use Rattle.std.proofs.{Common.{Bool, List, None, Option, Some, [], ap, arith, cond, false, filter, length, refl, suc, sym, true, zero, ℕ, ◌++◌, ◌+◌, ◌-◌, ◌<◌, ◌∙◌, ◌∷◌, ◌≡◌, ◌≤◌}, lemmas.{Grind.flat_map-append, List.{Elements.filter-append, Sums.length-filter, append-nil, length-map}, Option.{slice_get-map, slice_get_past}}}
use Rattle.std.specs.{List.{filter_map, flat_map, slice_get}, Prelude.{count_by, option_map}}
use Rattle.kc_language.specs.{Expansion.{enclosing, numbers}, Expressions.Form, Statements.Numbered, Symbols.{of_block, own_visible, visible_in}, declared.statements.Block.Block}
use Rattle.kc_entries.specs.PartsOfSymbols.{enclosing_visible}
use Rattle.kc_entries.proofs.{ElementLemmas.kept_at, PlaceLemmas.{count_next, there_in}}
use Rattle.kc_tree.specs.{EntryViews.{entry_count, entry_numbers, index_at, index_of, said_by, statements_in}, Layouts.{outer_visible, place_of, visible_at, visible_menu}, Places.{shows, shows_at, shows_before}, Stored.unstored, declared.{layout.Layout.Layout, rows.EntryId.EntryId}}
use Rattle.kc_tree.proofs.{IndexLemmas.{attributes-is, head-is, index-there}, ListLemmas.{count-between, kept-there}, OuterLemmas.{by-outer, entry-there, inside, outer-below, outermost, place-is, visible-by}}

module _ (l : Layout) where
  abbrev ss : List Numbered
  ss = statements_in l.entries

  abbrev outer_of : ℕ → ℕ
  outer_of e = (place_of l (suc e)).outer.0

  -- The menu with a number.
  pub record IsMenu (v m : ℕ) : Type 0 where
    pub is : visible_menu l (suc v) ≡ suc m
    pub there : m < entry_count l.entries
    pub shows_it : shows_at l.entries m ≡ true
    pub number : shows_before l.entries m ≡ v

  menu-by : (v m : ℕ) (o : Option EntryId) → slice_get l.visibles.items v ≡ o → option_map (λ (x : EntryId). x.0) o ≡ Some (suc m) → visible_menu l (suc v) ≡ suc m
  menu-by v m None h e = absurd cc
  menu-by v m (Some x) h e = ap (λ (o : Option EntryId). elim o [ None ↦ 0 | Some y ↦ y.0 ]) h ∙ (let same : x.0 ≡ suc m = cc in same)

  kept-menu : (v m : ℕ) → slice_get (filter (shows_at l.entries) (entry_numbers l.entries)) v ≡ Some m → visible_menu l (suc v) ≡ suc m
  kept-menu v m h =
      menu-by v m (slice_get l.visibles.items v) refl
      (sym (slice_get-map (λ (x : EntryId). x.0) l.visibles.items v)
      ∙ ap (λ r. slice_get r v) l.laid.visibles_are
      ∙ slice_get-map suc (filter (shows_at l.entries) (entry_numbers l.entries)) v
      ∙ ap (option_map suc) h)

  pub menu-of : (e : ℕ) → e < entry_count l.entries → shows_at l.entries e ≡ true → visible_menu l (suc (shows_before l.entries e)) ≡ suc e
  menu-of e h t = kept-menu (shows_before l.entries e) e (kept-there (shows_at l.entries) (entry_count l.entries) e h t)

  visibles-count : length l.visibles.items ≡ length (filter (shows_at l.entries) (entry_numbers l.entries))
  visibles-count = sym (length-map l.visibles.items (λ (x : EntryId). x.0)) ∙ ap length l.laid.visibles_are ∙ length-map (filter (shows_at l.entries) (entry_numbers l.entries)) suc

  pub menu-at : (v : ℕ) → v < length l.visibles.items → (m : ℕ) × IsMenu v m
  menu-at v h =
      let m = there_in (filter (shows_at l.entries) (entry_numbers l.entries)) v (omega (arith, h, visibles-count)) in
      let k = kept_at (shows_at l.entries) (entry_count l.entries) v (m.0) (m.1) in
      (m.0, record { is = kept-menu v (m.0) (m.1); there = k.below; shows_it = k.passes; number = k.count })

  -- What is asked of what is visible in an entry.
  abbrev pub visible_in_entry : ℕ → List Form
  visible_in_entry e = enclosing_visible ss (index_of l.entries e) ++ cond (shows_at l.entries e) (own_visible ss (index_of l.entries e)) []

  menu-asks : (e : ℕ) → e < entry_count l.entries → visible_menu l (suc (shows_before l.entries e)) ≡ suc e →
      visible_at l (suc (shows_before l.entries e)) ≡ enclosing_visible ss (index_of l.entries e) ++ own_visible ss (index_of l.entries e)
  menu-asks e h m =
      let x = entry-there l e h in
      ap (λ (o : Option ℕ). elim o [ None ↦ [] | Some i ↦ enclosing_visible ss i ++ own_visible ss i ]) (ap (index_at l.entries) m ∙ index-there l.entries e (x.0) (x.1))

  abbrev visible_inside : ℕ → List Form
  visible_inside at = elim (unstored at) [ None ↦ [] | Some e ↦ visible_in_entry e ]

  around : (e o : ℕ) → e < entry_count l.entries → outer_of e ≡ o → enclosing_visible ss (index_of l.entries e) ≡ visible_inside o
  around e zero h q = ap (λ is. flat_map (own_visible ss) (filter (of_block ss Block.Menu) is)) (outermost l e h q)
  around e (suc o) h q =
      let n = inside l e o h q in
      let i = index_of l.entries o in
      ap (λ is. flat_map (own_visible ss) (filter (of_block ss Block.Menu) is)) n.outside
      ∙ ap (flat_map (own_visible ss)) (filter-append (of_block ss Block.Menu) (enclosing ss i) (i ∷ []))
      ∙ flat_map-append (own_visible ss) (filter (of_block ss Block.Menu) (enclosing ss i)) (cond (of_block ss Block.Menu i) (i ∷ []) [])
      ∙ ap (λ r. enclosing_visible ss i ++ r) (one (of_block ss Block.Menu i) i)
      ∙ visible-by ss i (enclosing_visible ss i) (slice_get ss i) (said_by l.entries o) (attributes-is l.entries o)
      ∙ ap (λ o2. enclosing_visible ss i ++ cond (shows o2 (said_by l.entries o)) (own_visible ss i) []) (head-is l.entries o)
    where
      one : (b : Bool) (i : ℕ) → flat_map (own_visible ss) (cond b (i ∷ []) []) ≡ cond b (own_visible ss i) []
      one true i = append-nil (own_visible ss i)
      one false i = refl

  -- an entry has the number of itself, or that of the block around it
  number-by : (e : ℕ) (b : Bool) → e < entry_count l.entries → shows_at l.entries e ≡ b → (place_of l (suc e)).visible.0 ≡ cond b (suc (shows_before l.entries e)) (place_of l (outer_of e)).visible.0
  number-by e b h t = (place-is l e h).visible ∙ ap (λ c. cond c (suc (shows_before l.entries e)) (place_of l (outer_of e)).visible.0) t

  abbrev IsVisible : ℕ → Type 0
  IsVisible at = visible_at l (place_of l at).visible.0 ≡ visible_inside at

  own-by : (e : ℕ) (b : Bool) → e < entry_count l.entries → shows_at l.entries e ≡ b → IsVisible (outer_of e) → IsVisible (suc e)
  own-by e true h t ih =
      ap (visible_at l) (number-by e true h t) ∙ menu-asks e h (menu-of e h t)
      ∙ sym (ap (λ b. enclosing_visible ss (index_of l.entries e) ++ cond b (own_visible ss (index_of l.entries e)) []) t)
  own-by e false h t ih =
      ap (visible_at l) (number-by e false h t) ∙ ih ∙ sym (around e (outer_of e) h refl) ∙ sym (append-nil (enclosing_visible ss (index_of l.entries e)))
      ∙ sym (ap (λ b. enclosing_visible ss (index_of l.entries e) ++ cond b (own_visible ss (index_of l.entries e)) []) t)

  visible-inside : (at : ℕ) → at ≤ entry_count l.entries → IsVisible at
  visible-inside at h = by-outer l IsVisible refl (λ e k ih. own-by e (shows_at l.entries e) k refl ih) at h

  pub visible-is : (e : ℕ) → e < entry_count l.entries → visible_at l (place_of l (suc e)).visible.0 ≡ visible_in_entry e
  visible-is e h = visible-inside (suc e) (omega (arith, h))

  pub visible-around : (e : ℕ) → e < entry_count l.entries → enclosing_visible ss (index_of l.entries e) ≡ visible_at l (outer_visible l (suc e))
  visible-around e h = let low = outer-below l e h in around e (outer_of e) h refl ∙ sym (visible-inside (outer_of e) (omega (arith, low, h)))

  -- The step: what a menu asks comes behind what the menus around it ask, of which the nearest has a smaller number.
  pub visible-step : (v m : ℕ) → IsMenu v m → visible_at l (suc v) ≡ visible_at l (outer_visible l (suc m)) ++ filter_map visible_in (said_by l.entries m)
  visible-step v m k =
      let same : suc v ≡ suc (shows_before l.entries m) = ap suc (sym k.number) in
      ap (visible_at l) same ∙ menu-asks m k.there (menu-of m k.there k.shows_it)
      ∙ ap (λ r. r ++ own_visible ss (index_of l.entries m)) (visible-around m k.there)
      ∙ ap (λ own. visible_at l (outer_visible l (suc m)) ++ filter_map visible_in own) (attributes-is l.entries m)

  abbrev IsLow : ℕ → Type 0
  IsLow at = (place_of l at).visible.0 ≤ count_by (shows_at l.entries) (numbers at)

  low-by : (e : ℕ) (b : Bool) → e < entry_count l.entries → shows_at l.entries e ≡ b → IsLow (outer_of e) → IsLow (suc e)
  low-by e true h t ih =
      let is = number-by e true h t in
      let next = count_next (shows_at l.entries) e ∙ ap (λ b. count_by (shows_at l.entries) (numbers e) + cond b 1 0) t in
      omega (arith, is, next)
  low-by e false h t ih =
      let is = number-by e false h t in
      let low = outer-below l e h in
      let up = count-between (shows_at l.entries) (outer_of e) (suc e) (omega (arith, low)) in
      omega (arith, is, ih, up)

  pub visible-within : (at : ℕ) → at ≤ entry_count l.entries → (place_of l at).visible.0 ≤ count_by (shows_at l.entries) (numbers at)
  visible-within at h = by-outer l IsLow (omega arith) (λ e k ih. low-by e (shows_at l.entries e) k refl ih) at h

  -- there is such a menu
  pub visible-few : (at : ℕ) → at ≤ entry_count l.entries → (place_of l at).visible.0 ≤ length l.visibles.items
  visible-few at h =
      let low = visible-within at h in
      let up = count-between (shows_at l.entries) at (entry_count l.entries) h in
      let all = length-filter (shows_at l.entries) (entry_numbers l.entries) in
      omega (arith, low, up, all, visibles-count)

  pub outer_visible-before : (v m : ℕ) → IsMenu v m → outer_visible l (suc m) ≤ v
  outer_visible-before v m k =
      let before = outer-below l m k.there in
      let there = k.there in
      let small = visible-within (outer_of m) (omega (arith, before, there)) in
      let up = count-between (shows_at l.entries) (outer_of m) m before in
      let is = k.number in
      omega (arith, small, up, is)

  -- past the last of these menus nothing is asked for
  pub visible-past : (v : ℕ) → length l.visibles.items ≤ v → visible_at l (suc v) ≡ []
  visible-past v h =
      ap (λ (o : Option EntryId). elim (index_at l.entries (elim o [ None ↦ 0 | Some m ↦ m.0 ])) [ None ↦ [] | Some i ↦ enclosing_visible ss i ++ own_visible ss i ]) (slice_get_past l.visibles.items v h)
