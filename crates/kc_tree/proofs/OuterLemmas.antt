-- What entries ask for, and what is visible in them, by the block around each.
use Rattle.std.proofs.{Common.{Bool, List, None, Option, Some, [], ap, arith, cond, false, filter, length, refl, subst, suc, sym, true, zero, ℕ, ◌++◌, ◌+◌, ◌-◌, ◌<◌, ◌||◌, ◌∙◌, ◌∷◌, ◌≡◌, ◌≤◌}, lemmas.{Grind.flat_map-append, List.{Elements.filter-append, append-nil, get_or_past}, Option.{get_or_from_slice_get, slice_get_past, slice_get_within}}}
use Rattle.std.specs.{List.{cons_option, filter_map, flat_map, list_any, slice_get}, Option.is_some, Prelude.option_map}
use Rattle.kc_language.specs.{Expansion.{NoBracket, attributes, bracket, bracket_at, enclosing, last_of, opened}, Expressions.Form, Statements.{ChoiceLine, IfLine, MenuLine, Numbered}, Symbols.{Condition, block_conjuncts, choice_number, dependency_in, enclosing_choice, is_block, of_block, own_dependencies, own_visible, visible_in}, declared.statements.Block.Block}
use Rattle.kc_entries.specs.{PartsOfSymbols.enclosing_block, declared.entries.{Entries.Entries, Entry.Entry}}
use Rattle.kc_entries.proofs.{EnclosingLemmas.{enclosing-last, last-snoc, last_is_nested}, ListLemmas.last_of-none, PlaceLemmas.there_in}
use Rattle.kc_tree.specs.{EntryViews.{begins_choice, entry_count, head_at, index_at, index_of, is_choice_line, said_by, statements_in}, Layouts.{asked_by, condition_at, condition_of, mode_in, outer_context, place_of, top}, Places.{IsPlace, asks, asks_at, says, shows, top_place}, declared.layout.Layout.Layout}
use Rattle.kc_tree.proofs.IndexLemmas.{attributes-is, head-is, head-there, index-there}

-- Lines that say nothing.
module _ {X : Type 0} (f : Numbered → Option X) where
  silent-by : (o : Option X) (s : Numbered) (xs : List Numbered) → f s ≡ o → (is_some o || list_any (λ t. is_some (f t)) xs) ≡ false →
      (list_any (λ t. is_some (f t)) xs ≡ false → filter_map f xs ≡ []) → cons_option o (filter_map f xs) ≡ []
  silent-by None s xs e h ih = ih h
  silent-by (Some x) s xs e h ih = absurd cc

  -- lines that say nothing
  pub silent : (xs : List Numbered) → says f xs ≡ false → filter_map f xs ≡ []
  silent [] h = refl
  silent (s ∷ xs) h = silent-by (f s) s xs refl h (silent xs)

-- A block asks of what stands in it what its line and its attributes say.
module _ (ss : List Numbered) (i : ℕ) where
  abbrev asks_by : Option Numbered → List Form
  asks_by o =
      cond (is_block Block.Menu (opened (elim o [ None ↦ NoBracket | Some s ↦ bracket s ]))) (own_dependencies ss i) (elim o [ Some (IfLine e) ↦ e ∷ [] | _ ↦ [] ])

  block-by : (o : Option Numbered) → is_some (opened (elim o [ None ↦ NoBracket | Some s ↦ bracket s ])) ≡ true → asks_by o ≡ asked_by o (attributes ss i)
  block-by (Some (IfLine e)) t = refl
  block-by (Some (MenuLine x)) t = refl
  block-by (Some ChoiceLine) t = refl
  block-by _ t = absurd cc

  block-asks : is_some (opened (bracket_at ss i)) ≡ true → block_conjuncts ss i ≡ asked_by (slice_get ss i) (attributes ss i)
  block-asks t = block-by (slice_get ss i) t

  pub mode-by : (around : List ℕ) (o : Option Numbered) →
      option_map (choice_number ss) (last_of (around ++ cond (is_block Block.Choice (opened (elim o [ None ↦ NoBracket | Some s ↦ bracket s ]))) (i ∷ []) []))
      ≡ mode_in o (choice_number ss i) (option_map (choice_number ss) (last_of around))
  mode-by around (Some ChoiceLine) = ap (option_map (choice_number ss)) (last-snoc around i)
  mode-by around _ = ap (λ l. option_map (choice_number ss) (last_of l)) (append-nil around)

  -- a menu shows its `visible if` lines
  pub visible-by : (around : List Form) (o : Option Numbered) (own : List Numbered) → attributes ss i ≡ own →
      around ++ cond (is_block Block.Menu (opened (elim o [ None ↦ NoBracket | Some s ↦ bracket s ]))) (own_visible ss i) [] ≡ around ++ cond (shows o own) (own_visible ss i) []
  visible-by around (Some (MenuLine x)) own e = by (says visible_in own) refl
    where
      by : (b : Bool) → says visible_in own ≡ b → around ++ own_visible ss i ≡ around ++ cond b (own_visible ss i) []
      by true t = refl
      by false t = ap (λ l. around ++ l) (ap (filter_map visible_in) e ∙ silent visible_in own t)
  visible-by around _ own e = refl

-- A condition, and what an entry with this first line and these attributes asks for in it; it would be the choice with this number.
abbrev pub in_entry : Condition → Option Numbered → List Numbered → ℕ → Condition
in_entry c o own k = record { conjuncts = c.conjuncts ++ asked_by o own; mode = mode_in o k c.mode }

quiet-asks : (o : Option Numbered) (own : List Numbered) → asks o own ≡ false → asked_by o own ≡ []
quiet-asks (Some (IfLine e)) own h = absurd cc
quiet-asks (Some ChoiceLine) own h = absurd cc
quiet-asks _ own h = silent dependency_in own h

quiet-mode : (o : Option Numbered) (own : List Numbered) (k : ℕ) (m : Option ℕ) → asks o own ≡ false → mode_in o k m ≡ m
quiet-mode (Some (IfLine e)) own k m h = absurd cc
quiet-mode (Some ChoiceLine) own k m h = absurd cc
quiet-mode _ own k m h = refl

module _ (l : Layout) where
  abbrev es : Entries
  es = l.entries

  abbrev first_lines : List Entry
  first_lines = es.first_lines.items

  abbrev ss : List Numbered
  ss = statements_in es

  -- the place of an entry that is there
  pub place-is : (e : ℕ) → e < entry_count es → IsPlace es l.places.items e (place_of l (suc e))
  place-is e h =
      let p = there_in l.places.items e (omega (arith, h, l.laid.count)) in
      subst (IsPlace es l.places.items e) (sym (get_or_from_slice_get l.places.items e (p.0) top_place (p.1))) (l.laid.places_are e (p.0) (p.1))

  pub entry-there : (e : ℕ) → e < entry_count es → (x : Entry) × (slice_get first_lines e ≡ Some x)
  entry-there e h = there_in first_lines e h

  index-within : (e : ℕ) → e < entry_count es → index_of es e < length ss
  index-within e h = let x = entry-there e h in slice_get_within ss (index_of es e) _ (head-there es e (x.0) (x.1))

  -- the block around an entry is another entry before it
  pub record IsInside (e o : ℕ) : Type 0 where
    pub before : o < e
    pub there : o < entry_count es
    pub outside : enclosing ss (index_of es e) ≡ enclosing ss (index_of es o) ++ index_of es o ∷ []
    pub opener : is_some (opened (bracket_at ss (index_of es o))) ≡ true

  pub inside : (e o : ℕ) → e < entry_count es → (place_of l (suc e)).outer.0 ≡ suc o → IsInside e o
  inside e o h q =
      let p = place-is e h in
      let low : (place_of l (suc e)).outer.0 ≤ e = p.before in
      let below : o < e = omega (arith, low, q) in
      let y = entry-there o (omega (arith, below, h)) in
      let last : enclosing_block ss (index_of es e) ≡ Some (index_of es o) = sym p.outer ∙ ap (index_at es) q ∙ index-there es o (y.0) (y.1) in
      let within = index-within e h in
      let within_or_end : index_of es e ≤ length ss = omega (arith, within) in
      record {
        before = below;
        there = omega (arith, below, h);
        outside = enclosing-last ss (index_of es e) (index_of es o) within_or_end last;
        opener = (last_is_nested ss (index_of es e) (index_of es o) within_or_end last).opener;
      }

  pub outermost : (e : ℕ) → e < entry_count es → (place_of l (suc e)).outer.0 ≡ 0 → enclosing ss (index_of es e) ≡ []
  outermost e h q = last_of-none (enclosing ss (index_of es e)) (sym ((place-is e h).outer) ∙ ap (index_at es) q)

  -- ---- Conditions
  pub condition-there : (e : ℕ) → e < entry_count es → condition_at l (suc e) ≡ condition_of l (index_of es e)
  condition-there e h = let x = entry-there e h in ap (λ (o : Option ℕ). elim o [ None ↦ top | Some i ↦ condition_of l i ]) (index-there es e (x.0) (x.1))

  abbrev outer_of : ℕ → ℕ
  outer_of e = (place_of l (suc e)).outer.0

  pub around-asks : (e o : ℕ) → e < entry_count es → outer_of e ≡ o → flat_map (block_conjuncts ss) (enclosing ss (index_of es e)) ≡ (condition_at l o).conjuncts
  around-asks e zero h q = ap (flat_map (block_conjuncts ss)) (outermost e h q)
  around-asks e (suc o) h q =
      let n = inside e o h q in
      let i = index_of es o in
      ap (flat_map (block_conjuncts ss)) n.outside
      ∙ flat_map-append (block_conjuncts ss) (enclosing ss i) (i ∷ [])
      ∙ ap (λ r. flat_map (block_conjuncts ss) (enclosing ss i) ++ r) (append-nil (block_conjuncts ss i) ∙ block-asks ss i n.opener)
      ∙ sym (ap (λ (c : Condition). c.conjuncts) (condition-there o n.there))

  pub around-mode : (e o : ℕ) → e < entry_count es → outer_of e ≡ o → enclosing_choice ss (index_of es e) ≡ (condition_at l o).mode
  around-mode e zero h q = ap (λ is. option_map (choice_number ss) (last_of (filter (of_block ss Block.Choice) is))) (outermost e h q)
  around-mode e (suc o) h q =
      let n = inside e o h q in
      let i = index_of es o in
      ap (λ is. option_map (choice_number ss) (last_of (filter (of_block ss Block.Choice) is))) n.outside
      ∙ ap (λ is. option_map (choice_number ss) (last_of is)) (filter-append (of_block ss Block.Choice) (enclosing ss i) (i ∷ []))
      ∙ mode-by ss i (filter (of_block ss Block.Choice) (enclosing ss i)) (slice_get ss i)
      ∙ sym (ap (λ (c : Condition). c.mode) (condition-there o n.there))

  -- what stands in an entry asks for what the block around the entry does, and for what the entry does
  pub condition-outer : (e : ℕ) → e < entry_count es → condition_at l (suc e) ≡ in_entry (condition_at l (outer_of e)) (head_at es e) (said_by es e) (choice_number ss (index_of es e))
  condition-outer e h =
      let a = around-asks e (outer_of e) h refl in
      let m = around-mode e (outer_of e) h refl in
      condition-there e h
      ∙ (λ j. record {
        conjuncts = a j ++ asked_by (head-is es e j) (attributes-is es e j);
        mode = mode_in (head-is es e j) (choice_number ss (index_of es e)) (m j);
      })

  quiet : (e : ℕ) → e < entry_count es → asks_at es e ≡ false → condition_at l (suc e) ≡ condition_at l (outer_of e)
  quiet e h t =
      let c = condition_at l (outer_of e) in
      let a = quiet-asks (head_at es e) (said_by es e) t in
      let m = quiet-mode (head_at es e) (said_by es e) (choice_number ss (index_of es e)) (condition_at l (outer_of e)).mode t in
      condition-outer e h ∙ (λ j. record { conjuncts = (ap (λ r. (condition_at l (outer_of e)).conjuncts ++ r) a ∙ append-nil (condition_at l (outer_of e)).conjuncts) j; mode = m j })

  -- What holds of the top, and of an entry where it does of the block around it, holds of all entries.
  by-outer_below : (P : ℕ → Type 0) → P 0 → ((e : ℕ) → e < entry_count es → P (outer_of e) → P (suc e)) → (n : ℕ) → n ≤ entry_count es → (at : ℕ) → at ≤ n → P at
  by-outer_below P top step n k zero f = top
  by-outer_below P top step zero k (suc e) f = absurd (omega (arith, f))
  by-outer_below P top step (suc n) k (suc e) f =
      let there : e < entry_count es = omega (arith, f, k) in
      let low : outer_of e ≤ e = (place-is e there).before in
      step e there (by-outer_below P top step n (omega (arith, k)) (outer_of e) (omega (arith, low, f)))

  pub by-outer : (P : ℕ → Type 0) → P 0 → ((e : ℕ) → e < entry_count es → P (outer_of e) → P (suc e)) → (at : ℕ) → at ≤ entry_count es → P at
  by-outer P top step at h = by-outer_below P top step (entry_count es) (omega arith) at h

  pub outer-below : (e : ℕ) → e < entry_count es → outer_of e ≤ e
  outer-below e h = (place-is e h).before

  -- an entry that asks for something is its own context, another one has that of the block around it
  pub context-by : (e : ℕ) (b : Bool) → e < entry_count es → asks_at es e ≡ b → (place_of l (suc e)).context.0 ≡ cond b (suc e) (place_of l (outer_of e)).context.0
  context-by e b h t = (place-is e h).context ∙ ap (λ c. cond c (suc e) (place_of l (outer_of e)).context.0) t

  -- the context of an entry asks for the same as the entry
  abbrev SameContext : ℕ → Type 0
  SameContext at = condition_at l at ≡ condition_at l (place_of l at).context.0

  same-by : (e : ℕ) (b : Bool) → e < entry_count es → asks_at es e ≡ b → SameContext (outer_of e) → SameContext (suc e)
  same-by e true h t ih = ap (condition_at l) (sym (context-by e true h t))
  same-by e false h t ih = quiet e h t ∙ ih ∙ ap (condition_at l) (sym (context-by e false h t))

  pub context-same : (at : ℕ) → at ≤ entry_count es → condition_at l at ≡ condition_at l (place_of l at).context.0
  context-same at h = by-outer SameContext refl (λ e k ih. same-by e (asks_at es e) k refl ih) at h

  -- the step of conditions, from the nearest entry around it that asks for something
  pub condition-step : (e : ℕ) → e < entry_count es → condition_at l (suc e) ≡ in_entry (condition_at l (outer_context l (suc e))) (head_at es e) (said_by es e) (choice_number ss (index_of es e))
  condition-step e h =
      let low = outer-below e h in
      condition-outer e h ∙ ap (λ c. in_entry c (head_at es e) (said_by es e) (choice_number ss (index_of es e))) (context-same (outer_of e) (omega (arith, low, h)))

  -- a context has no greater number than its entry, and the one around it a smaller one
  within-by : (e : ℕ) (b : Bool) → e < entry_count es → asks_at es e ≡ b → (place_of l (outer_of e)).context.0 ≤ outer_of e → (place_of l (suc e)).context.0 ≤ suc e
  within-by e true h t ih = let c = context-by e true h t in omega (arith, c)
  within-by e false h t ih = let c = context-by e false h t in let low = outer-below e h in omega (arith, c, ih, low)

  pub context-within : (at : ℕ) → at ≤ entry_count es → (place_of l at).context.0 ≤ at
  context-within at h = by-outer (λ n. (place_of l n).context.0 ≤ n) (omega arith) (λ e k ih. within-by e (asks_at es e) k refl ih) at h

  pub outer_context-before : (e : ℕ) → e < entry_count es → outer_context l (suc e) ≤ e
  outer_context-before e h =
      let low = outer-below e h in
      let up = context-within (outer_of e) (omega (arith, low, h)) in
      omega (arith, low, up)

  -- An entry that asks for something is its own context.
  pub record IsContext (c : ℕ) : Type 0 where
    pub there : c < entry_count es
    pub asks_it : asks_at es c ≡ true

  pub context-self : (c : ℕ) → IsContext c → (place_of l (suc c)).context.0 ≡ suc c
  context-self c is = context-by c true is.there is.asks_it

  abbrev IsContextOf : ℕ → Type 0
  IsContextOf at = (c : ℕ) → (place_of l at).context.0 ≡ suc c → IsContext c

  own-by : (e : ℕ) (b : Bool) → e < entry_count es → asks_at es e ≡ b → IsContextOf (outer_of e) → IsContextOf (suc e)
  own-by e true h t ih c q = let same : e ≡ c = (let both : suc e ≡ suc c = sym (context-by e true h t) ∙ q in cc) in subst IsContext same (record { there = h; asks_it = t })
  own-by e false h t ih c q = ih c (sym (context-by e false h t) ∙ q)

  -- a context, where there is one
  pub context-is : (at c : ℕ) → at ≤ entry_count es → (place_of l at).context.0 ≡ suc c → IsContext c
  context-is at c h q = by-outer IsContextOf (λ k e. absurd cc) (λ e k ih. own-by e (asks_at es e) k refl ih) at h c q

  pub context-again : (at : ℕ) → at ≤ entry_count es → (place_of l (place_of l at).context.0).context.0 ≡ (place_of l at).context.0
  context-again at h = by (place_of l at).context.0 refl
    where
      by : (n : ℕ) → (place_of l at).context.0 ≡ n → (place_of l n).context.0 ≡ n
      by zero q = refl
      by (suc c) q = context-self c (context-is at c h q)

  -- An entry in which no choice counts begins none, and stands in none.
  none-by : (o : Option Numbered) (k : ℕ) (m : Option ℕ) → mode_in o k m ≡ None → (is_choice_line o ≡ false) × (m ≡ None)
  none-by (Some ChoiceLine) k m h = absurd cc
  none-by _ k m h = (refl, h)

  pub mode-none : (e : ℕ) → e < entry_count es → (condition_at l (suc e)).mode ≡ None → (begins_choice es e ≡ false) × ((condition_at l (outer_context l (suc e))).mode ≡ None)
  mode-none e h q =
      none-by (head_at es e) (choice_number ss (index_of es e)) ((condition_at l (outer_context l (suc e))).mode) (sym (ap (λ (c : Condition). c.mode) (condition-step e h)) ∙ q)

  -- past the last entry nothing is asked for
  pub condition-past : (e : ℕ) → entry_count es ≤ e → condition_at l (suc e) ≡ top
  condition-past e h =
      ap (λ (o : Option Entry). elim (option_map (λ (x : Entry). index_of es e) o) [ None ↦ top | Some i ↦ condition_of l i ]) (slice_get_past first_lines e h)

  pub place-past : (e : ℕ) → entry_count es ≤ e → place_of l (suc e) ≡ top_place
  place-past e h = get_or_past l.places.items e top_place (omega (arith, h, l.laid.count))
