-- The lines that select or imply a symbol, by the list of lines with an effect.
use Rattle.std.proofs.Common.{◌≡◌, ℕ, zero, suc, ◌+◌, ◌-◌, ◌<◌, ◌≤◌, Bool, true, false, cond, ◌||◌, List, [], ◌∷◌, ◌++◌, length, drop, filter, map, reverse, Option, Some, None, refl, ap, sym, ◌∙◌, subst, arith, append-nil}
use Rattle.std.specs.List.{cons_option, filter_map, flat_map, list_any, slice_get}
use Rattle.std.specs.Option.{is_some, option_and_then}
use Rattle.std.specs.Prelude.{option_map}
use Rattle.std.proofs.lemmas.List.{length-map, map-append}
use Rattle.std.proofs.lemmas.List.Elements.{filter_map-append}
use Rattle.std.proofs.lemmas.Option.{slice_get-map}
use Rattle.std.proofs.Math.Bool.{or-false}
use Rattle.kc_language.specs.declared.expressions.SymId.{SymId}
use Rattle.kc_language.specs.declared.symbols.SelectOrImply.{SelectOrImply}
use Rattle.kc_language.specs.declared.symbols.SelectOrImply.TheVariants as word
use Rattle.kc_language.specs.Expansion.{defined_name, is_attribute, last_of, numbers}
use Rattle.kc_outcome.specs.Explanations as rules
use Rattle.kc_language.specs.Symbols as line_rules
use Rattle.kc_language.specs.Expressions.{Form, same_symbol}
use Rattle.kc_language.specs.Statements.{Located, Numbered, ImplyLine, SelectLine}
use Rattle.kc_language.specs.Symbols.{can_be_target, listed, symbol_at, target_of}
use Rattle.kc_entries.specs.Entries.{attribute_line, start_at}
use Rattle.kc_entries.specs.EntryStarts.{start_of}
use Rattle.kc_entries.specs.StatementViews.{attribute_view}
use Rattle.kc_entries.specs.declared.entries.AttributeLine.{AttributeLine}
use Rattle.kc_entries.specs.declared.entries.Entries.{Entries}
use Rattle.kc_entries.specs.declared.entries.Entry.{Entry}
use Rattle.kc_entries.proofs.ElementLemmas.{same_is}
use Rattle.kc_entries.proofs.EntryLemmas.{front-is}
use Rattle.kc_entries.proofs.PlaceLemmas.{there_in}
use Rattle.kc_tree.specs.EntryViews as entries
use Rattle.kc_tree.specs.EntryViews.{entry_count, entry_numbers, entry_symbol, index_of, own_attributes, said_by}
use Rattle.kc_tree.specs.Layouts.{entry_at, index_at, lines_up_to, statements_in, symbol_at as symbol_of}
use Rattle.kc_tree.specs.Places.{effects_at, has_effect, has_effect_at, line_in, names}
use Rattle.kc_tree.specs.Stored.{stored, unstored}
use Rattle.kc_tree.specs.declared.layout.Layout.{Layout}
use Rattle.kc_tree.specs.declared.rows.Selector.{Selector}
use Rattle.kc_tree.proofs.EntryListLemmas.{no-name}
use Rattle.kc_tree.proofs.IndexLemmas.{flat-entries, index-there, own-there, said-count, symbol-is}
use Rattle.kc_tree.proofs.LayoutWalks.{IsLineAt, line-before, line-last-at, line-next, line-next-at}
use Rattle.kc_tree.proofs.ListLemmas.{flat-below, flat-each, flat-filter, flat-filter_map, flat-flat, flat-get, flat-map, flat-pulled, get-drop, get-take}
use Rattle.kc_tree.proofs.WalkLemmas.{up_to-last}
use Rattle.kc_explain.specs.LineViews.{Target, attribute_in, lines_of, target_in, target_of_row, target_view}
use Rattle.kc_explain.specs.declared.lines.TargetAt.{TargetAt}
use Rattle.kc_explain.proofs.LineLemmas.{entry-there, own-is, said-at}
use Rattle.kc_explain.proofs.WalkLemmas.{map-reverse, reversed-more}

cond-none : {X : Type 0} (b : Bool) → cond {A = List X} b [] [] ≡ []
cond-none true = refl
cond-none false = refl

module _ (l : Layout) (w : SelectOrImply) (s : SymId) where
  abbrev es : Entries
  es = l.entries

  -- what the lines up to one lead to
  abbrev pub targets_up_to : ℕ → List Target
  targets_up_to at = filter_map (λ j. option_and_then (target_of_row l) (slice_get l.selectors.items j)) (lines_up_to l w s at)

  -- What a row leads to, if it names the symbol, by the numbers of its entry and its attribute.
  abbrev reached_by : ℕ → Entry → AttributeLine → SymId → Option Target
  reached_by at x a u = option_map (λ t. record { by = u; entry = index_at l at; line = Some (attribute_line x.file.value.items a.line a.attribute); when = t.2 }) (target_of (attribute_view a.attribute))

  abbrev of_line : ℕ → Option Entry → Option SymId → Option AttributeLine → List Target
  of_line at x o a = cond (is_some (option_and_then (line_rules.targets w s) (option_map (λ (b : AttributeLine). attribute_view b.attribute) a)))
      (listed (option_and_then (λ y. option_and_then (λ b. option_and_then (reached_by at y b) o) a) x)) []

  abbrev gives : ℕ × ℕ → List Target
  gives p = cond (is_some (option_and_then (line_rules.targets w s) (option_and_then (entries.attribute_at es) (unstored (p.1)))))
      (listed (option_and_then (λ y. option_and_then (λ b. option_and_then (reached_by (p.0) y b) (symbol_of l (p.0))) (attribute_in l (p.1))) (entry_at l (p.0)))) []

  abbrev pair : Selector → ℕ × ℕ
  pair r = (r.entry.0, r.attribute.0)

  abbrev by-row : Option Selector → List Target
  by-row o = cond (is_some (option_and_then (line_rules.targets w s) (option_and_then (line_in es) o))) (listed (option_and_then (target_of_row l) o)) []

  rows-give : targets_up_to (length l.selectors.items) ≡ flat_map (λ (r : Selector). gives (pair r)) l.selectors.items
  rows-give =
      flat-filter_map (λ j. option_and_then (target_of_row l) (slice_get l.selectors.items j)) (filter (names es l.selectors.items w s) (numbers (length l.selectors.items)))
      ∙ flat-filter (names es l.selectors.items w s) (λ j. listed (option_and_then (target_of_row l) (slice_get l.selectors.items j))) (numbers (length l.selectors.items))
      ∙ flat-get by-row l.selectors.items

  -- One line.
  line-gives : (g : Option Form → Target) (x : Numbered) →
      cond (has_effect es x) (cond (is_some (line_rules.targets w s x)) (listed (option_map (λ t. g (t.2)) (target_of x))) []) []
      ≡ cond (can_be_target (statements_in l) s) (listed (option_map g (line_rules.targets w s x))) []
  line-gives g x = by w x
    where
      named : (t : SymId) (v : Option Form) (b : Bool) → same_symbol t s ≡ b →
          cond (can_be_target (statements_in l) t || false) (cond (is_some (cond b (Some v) None)) (g v ∷ []) []) []
          ≡ cond (can_be_target (statements_in l) s) (listed (option_map g (cond b (Some v) None))) []
      named t v true e = ap (λ c. cond c (g v ∷ []) []) (or-false (can_be_target (statements_in l) t) ∙ ap (can_be_target (statements_in l)) (sym (same_is t s e)))
      named t v false e = cond-none (can_be_target (statements_in l) t || false) ∙ sym (cond-none (can_be_target (statements_in l) s))

      by : (k : SelectOrImply) (y : Numbered) →
          cond (has_effect es y) (cond (is_some (line_rules.targets k s y)) (listed (option_map (λ t. g (t.2)) (target_of y))) []) []
          ≡ cond (can_be_target (statements_in l) s) (listed (option_map g (line_rules.targets k s y))) []
      by word.Select (SelectLine t v) = named t v (same_symbol t s) refl
      by word.Imply (ImplyLine t v) = named t v (same_symbol t s) refl
      by word.Select y = cond-none (has_effect es y) ∙ sym (cond-none (can_be_target (statements_in l) s))
      by word.Imply y = cond-none (has_effect es y) ∙ sym (cond-none (can_be_target (statements_in l) s))

  -- One entry.
  abbrev pub said_in : SymId → ℕ → List Target
  said_in u i = map (λ q. target_in (lines_of l) (u, q)) (rules.said_at (statements_in l) (line_rules.targets w s) i)

  abbrev pub of_symbol : ℕ → List Target
  of_symbol i = flat_map (λ u. said_in u i) (listed (symbol_at (statements_in l) i))

  see : Entry → AttributeLine → Located Numbered
  see x a = attribute_line x.file.value.items a.line a.attribute

  said-own : (u : SymId) (e : ℕ) (x : Entry) → slice_get es.first_lines.items e ≡ Some x →
      said_in u (index_of es e) ≡ flat_map (λ (a : AttributeLine). listed (option_map (λ y. record { by = u; entry = Some (index_of es e); line = Some (attribute_line x.file.value.items a.line a.attribute); when = y })
      (line_rules.targets w s (attribute_view a.attribute)))) (own_attributes es e)
  said-own u e x h =
      let is = entry-there l (suc e) x h in
      let same : is.number ≡ e = (let q = is.stored in omega (arith, q)) in
      let one : Located Numbered → Option Form → Target = λ o y. record { by = u; entry = Some (index_of es is.number); line = Some o; when = y } in
      ap (λ k. said_in u (index_of es k)) (sym same)
      ∙ said-at (line_rules.targets w s) l (suc e) x is (λ q. target_in (lines_of l) (u, q)) one (λ k o y q. λ i. record { by = u; entry = Some (index_of es is.number); line = q i; when = y })
      ∙ ap (filter_map (λ (o : Located Numbered). option_map (one o) (line_rules.targets w s o.statement))) (own-is l e x h)
      ∙ flat-filter_map (λ (o : Located Numbered). option_map (one o) (line_rules.targets w s o.statement)) (map (λ (a : AttributeLine). attribute_line x.file.value.items a.line a.attribute) (own_attributes es e))
      ∙ flat-map (λ (o : Located Numbered). listed (option_map (one o) (line_rules.targets w s o.statement))) (λ (a : AttributeLine). attribute_line x.file.value.items a.line a.attribute) (own_attributes es e)
      ∙ ap (λ k. flat_map (λ (a : AttributeLine). listed (option_map (λ y. record { by = u; entry = Some (index_of es k); line = Some (attribute_line x.file.value.items a.line a.attribute); when = y })
      (line_rules.targets w s (attribute_view a.attribute)))) (own_attributes es e)) same

  -- the attributes of an entry among all attributes
  own-line : (e j : ℕ) (x : Entry) → slice_get es.first_lines.items e ≡ Some x → j < length (said_by es e) → slice_get es.attributes.items (start_at es e + j) ≡ slice_get (own_attributes es e) j
  own-line e j x h b =
      let begin : start_at es e ≡ x.start = ap (λ fs. start_of fs (length es.attributes.items)) (front-is e es.first_lines.items x h) in
      let count = said-count es e x h in
      ap (λ n. slice_get es.attributes.items (n + j)) begin
      ∙ sym (get-drop es.attributes.items x.start j)
      ∙ sym (get-take (drop x.start es.attributes.items) (start_at es (suc e) - x.start) j (omega (arith, b, count, begin)))
      ∙ ap (λ r. slice_get r j) (sym (own-there es e x h))

  entry-by : (e : ℕ) (x : Entry) (o : Option SymId) → slice_get es.first_lines.items e ≡ Some x → e < entry_count es → entry_symbol es e ≡ o →
      flat_map gives (effects_at es e) ≡ cond (can_be_target (statements_in l) s) (of_symbol (index_of es e)) []
  entry-by e x None f h q =
      ap (λ o. flat_map gives (cond (is_some o) (map (λ j. (suc e, suc (start_at es e + j))) (filter (has_effect_at es e) (numbers (length (said_by es e))))) [])) q
      ∙ sym (cond-none (can_be_target (statements_in l) s))
      ∙ ap (λ o. cond (can_be_target (statements_in l) s) (flat_map (λ v. said_in v (index_of es e)) (listed o)) []) (sym (symbol-is es e ∙ q))
  entry-by e x (Some u) f h q =
      let effect_of : Option AttributeLine → List Target = λ a. cond (list_any (has_effect es) (listed (option_map (λ (b : AttributeLine). attribute_view b.attribute) a))) (of_line (suc e) (Some x) (Some u) a) [] in
      let g : AttributeLine → Option Form → Target = λ a y. record { by = u; entry = Some (index_of es e); line = Some (attribute_line x.file.value.items a.line a.attribute); when = y } in
      let same_count : length (said_by es e) ≡ length (own_attributes es e) = length-map (own_attributes es e) (λ (a : AttributeLine). attribute_view a.attribute) in
      ap (λ o. flat_map gives (cond (is_some o) (map (λ j. (suc e, suc (start_at es e + j))) (filter (has_effect_at es e) (numbers (length (said_by es e))))) [])) q
      ∙ flat-map gives (λ j. (suc e, suc (start_at es e + j))) (filter (has_effect_at es e) (numbers (length (said_by es e))))
      ∙ flat-filter (has_effect_at es e) (λ j. gives (suc e, suc (start_at es e + j))) (numbers (length (said_by es e)))
      ∙ flat-below (λ j. cond (has_effect_at es e j) (gives (suc e, suc (start_at es e + j))) []) (λ j. effect_of (slice_get (own_attributes es e) j)) (length (said_by es e))
      (λ j b. λ i. cond (list_any (has_effect es) (listed (slice_get-map (λ (a : AttributeLine). attribute_view a.attribute) (own_attributes es e) j i))) (of_line (suc e) (f i) (q i) (own-line e j x f b i)) [])
      ∙ ap (λ n. flat_map (λ j. effect_of (slice_get (own_attributes es e) j)) (numbers n)) same_count
      ∙ flat-get effect_of (own_attributes es e)
      ∙ flat-each (λ a. effect_of (Some a)) (λ a. cond (can_be_target (statements_in l) s) (listed (option_map (g a) (line_rules.targets w s (attribute_view a.attribute)))) [])
      (λ a. (λ i. cond (or-false (has_effect es (attribute_view a.attribute)) i) (cond (is_some (line_rules.targets w s (attribute_view a.attribute)))
      (listed (option_map (λ t. record { by = u; entry = index-there es e x f i; line = Some (attribute_line x.file.value.items a.line a.attribute); when = t.2 }) (target_of (attribute_view a.attribute)))) []) [])
      ∙ line-gives (g a) (attribute_view a.attribute)) (own_attributes es e)
      ∙ flat-pulled (can_be_target (statements_in l) s) (λ a. listed (option_map (g a) (line_rules.targets w s (attribute_view a.attribute)))) (own_attributes es e)
      ∙ ap (λ r. cond (can_be_target (statements_in l) s) r []) (sym (said-own u e x f) ∙ sym (append-nil (said_in u (index_of es e))))
      ∙ ap (λ o. cond (can_be_target (statements_in l) s) (flat_map (λ v. said_in v (index_of es e)) (listed o)) []) (sym (symbol-is es e ∙ q))

  -- All lines.
  no-line : (i : ℕ) (t : Numbered) → slice_get (statements_in l) i ≡ Some t → is_attribute t ≡ true → of_symbol i ≡ []
  no-line i t h a = ap (λ o. flat_map (λ u. said_in u i) (listed o)) (ap (option_and_then defined_name) h ∙ no-name t a)

  map-flat : {A B C : Type 0} (f : B → C) (g : A → List B) (xs : List A) → map f (flat_map g xs) ≡ flat_map (λ x. map f (g x)) xs
  map-flat f g [] = refl
  map-flat f g (x ∷ xs) = map-append f (g x) (flat_map g xs) ∙ ap (λ r. map f (g x) ++ r) (map-flat f g xs)

  pulled-map : {A B : Type 0} (f : A → B) (b : Bool) (xs : List A) → cond b (map f xs) [] ≡ map f (cond b xs [])
  pulled-map f true xs = refl
  pulled-map f false xs = refl

  pairs-map : (qs : List (rules.Said (Option Form))) (u : SymId) → map (target_in (lines_of l)) (map (λ q. (u, q)) qs) ≡ map (λ q. target_in (lines_of l) (u, q)) qs
  pairs-map [] u = refl
  pairs-map (q ∷ qs) u = ap (λ r. target_in (lines_of l) (u, q) ∷ r) (pairs-map qs u)

  naming : (i : ℕ) → map (target_in (lines_of l)) (rules.lines_naming (statements_in l) (line_rules.targets w s) i) ≡ of_symbol i
  naming i =
      let qs = rules.said_at (statements_in l) (line_rules.targets w s) i in
      map-flat (target_in (lines_of l)) (λ u. map (λ q. (u, q)) (rules.said_at (statements_in l) (line_rules.targets w s) i)) (listed (symbol_at (statements_in l) i))
      ∙ flat-each (λ u. map (target_in (lines_of l)) (map (λ q. (u, q)) (rules.said_at (statements_in l) (line_rules.targets w s) i))) (λ u. said_in u i)
      (λ u. pairs-map (rules.said_at (statements_in l) (line_rules.targets w s) i) u) (listed (symbol_at (statements_in l) i))

  pub targets-are : targets_up_to (length l.selectors.items) ≡ map (target_in (lines_of l)) (rules.raising_lines (statements_in l) w s)
  targets-are =
      rows-give
      ∙ sym (flat-map gives pair l.selectors.items)
      ∙ ap (flat_map gives) l.laid.effects
      ∙ flat-flat gives (effects_at es) (entry_numbers es)
      ∙ flat-below (λ e. flat_map gives (effects_at es e)) (λ e. cond (can_be_target (statements_in l) s) (of_symbol (index_of es e)) []) (entry_count es)
      (λ e h. let x = there_in es.first_lines.items e h in entry-by e (x.0) (entry_symbol es e) (x.1) h refl)
      ∙ flat-pulled (can_be_target (statements_in l) s) (λ e. of_symbol (index_of es e)) (entry_numbers es)
      ∙ ap (λ r. cond (can_be_target (statements_in l) s) r []) (sym (flat-entries es of_symbol no-line)
      ∙ sym (map-flat (target_in (lines_of l)) (rules.lines_naming (statements_in l) (line_rules.targets w s)) (numbers (length (statements_in l)))
      ∙ flat-each (λ i. map (target_in (lines_of l)) (rules.lines_naming (statements_in l) (line_rules.targets w s) i)) of_symbol naming (numbers (length (statements_in l)))))
      ∙ pulled-map (target_in (lines_of l)) (can_be_target (statements_in l) s) (flat_map (rules.lines_naming (statements_in l) (line_rules.targets w s)) (numbers (length (statements_in l))))

  -- ---- The walk: what was found so far, the last one first, and what is left
  pub record Walks (at : ℕ) (all : List TargetAt) : Type 0 where
    pub next : IsLineAt l w s at
    pub found : targets_up_to at ++ reverse (map (target_view l) all) ≡ map (target_in (lines_of l)) (rules.raising_lines (statements_in l) w s)

  pub walk-begins : (at : ℕ) (all : List TargetAt) → at ≡ stored (last_of (lines_up_to l w s (length l.selectors.items))) → all ≡ [] → Walks at all
  walk-begins at all e n = record {
    next = line-last-at l w s at e;
    found = ap (λ xs. targets_up_to at ++ reverse (map (target_view l) xs)) n ∙ append-nil (targets_up_to at)
        ∙ ap (filter_map (λ j. option_and_then (target_of_row l) (slice_get l.selectors.items j)))
        (ap (lines_up_to l w s) e ∙ up_to-last (names es l.selectors.items w s) (length l.selectors.items))
        ∙ targets-are;
  }

  targets-next : (j : ℕ) (r : Selector) (next : IsLineAt l w s (suc j)) → slice_get l.selectors.items j ≡ Some r → targets_up_to (suc j) ≡ targets_up_to r.next.0 ++ cons_option (target_of_row l r) []
  targets-next j r next h =
      ap (filter_map (λ k. option_and_then (target_of_row l) (slice_get l.selectors.items k))) (line-next l w s j r h (next j refl))
      ∙ filter_map-append (λ k. option_and_then (target_of_row l) (slice_get l.selectors.items k)) (lines_up_to l w s r.next.0) (j ∷ [])
      ∙ ap (λ o. targets_up_to r.next.0 ++ cons_option (option_and_then (target_of_row l) o) []) h

  walk-by : (j : ℕ) (r : Selector) (all new : List TargetAt) (o : Option TargetAt) → slice_get l.selectors.items j ≡ Some r → Walks (suc j) all → option_map (target_view l) o ≡ target_of_row l r →
      new ≡ all ++ listed o → Walks r.next.0 new
  walk-by j r all new None h v q m = record {
    next = line-next-at l w s j r h (v.next j refl);
    found = ap (λ xs. targets_up_to r.next.0 ++ reverse (map (target_view l) xs)) (m ∙ append-nil all)
        ∙ ap (λ xs. xs ++ reverse (map (target_view l) all))
        (sym (targets-next j r v.next h ∙ ap (λ t. targets_up_to r.next.0 ++ cons_option t []) (sym q) ∙ append-nil (targets_up_to r.next.0)))
        ∙ v.found;
  }
  walk-by j r all new (Some t) h v q m = record {
    next = line-next-at l w s j r h (v.next j refl);
    found = ap (λ xs. targets_up_to r.next.0 ++ reverse (map (target_view l) xs)) m
        ∙ reversed-more (target_view l) all t (targets_up_to r.next.0) (map (target_in (lines_of l)) (rules.raising_lines (statements_in l) w s))
        (ap (λ xs. xs ++ reverse (map (target_view l) all)) (sym (targets-next j r v.next h ∙ ap (λ u. targets_up_to r.next.0 ++ cons_option u []) (sym q))) ∙ v.found);
  }

  -- a row that was read by its number
  row-at : (n : ℕ) (r : Selector) → option_and_then (slice_get l.selectors.items) (unstored n) ≡ Some r → (j : ℕ) × (n ≡ suc j) × (slice_get l.selectors.items j ≡ Some r)
  row-at zero r h = absurd cc
  row-at (suc j) r h = (j, refl, h)

  pub walk-goes : (n next : ℕ) (r : Selector) (all new : List TargetAt) (o : Option TargetAt) → option_and_then (slice_get l.selectors.items) (unstored n) ≡ Some r → Walks n all →
      option_map (target_view l) o ≡ target_of_row l r → new ≡ all ++ listed o → next ≡ r.next.0 → Walks next new
  walk-goes n next r all new o h v q m g =
      let at = row-at n r h in
      subst (λ p. Walks p new) (sym g) (walk-by (at.0) r all new o (at.2) (subst (λ p. Walks p all) (at.1) v) q m)

  pub walk-lower : (n next : ℕ) (r : Selector) (all : List TargetAt) → option_and_then (slice_get l.selectors.items) (unstored n) ≡ Some r → Walks n all → next ≡ r.next.0 → next < n
  walk-lower n next r all h v g =
      let at = row-at n r h in
      let v2 = subst (λ p. Walks p all) (at.1) v in
      let low = lower (at.0) r (r.next.0) refl (at.2) v2 in
      let is = at.1 in
      omega (arith, low, g, is)
    where
      lower : (j : ℕ) (r : Selector) (k : ℕ) → r.next.0 ≡ k → slice_get l.selectors.items j ≡ Some r → Walks (suc j) all → k ≤ j
      lower j r zero e h v = omega arith
      lower j r (suc k) e h v = let below = line-before l w s j k r h (v.next j refl) (ap unstored e) in omega (arith, below)

  none-at : (n : ℕ) → IsLineAt l w s n → option_and_then (slice_get l.selectors.items) (unstored n) ≡ None → n ≡ 0
  none-at zero next h = refl
  none-at (suc j) next h = let is = next j refl in let r = there_in l.selectors.items j is.there in absurd (let no : None ≡ Some (r.0) = sym h ∙ r.1 in cc)

  pub walk-ends : (n : ℕ) (all new : List TargetAt) → option_and_then (slice_get l.selectors.items) (unstored n) ≡ None → Walks n all → new ≡ reverse all →
      map (target_view l) new ≡ map (target_in (lines_of l)) (rules.raising_lines (statements_in l) w s)
  walk-ends n all new h v m =
      let top = none-at n v.next h in
      ap (map (target_view l)) m ∙ map-reverse (target_view l) all
      ∙ sym (ap (λ k. targets_up_to k ++ reverse (map (target_view l) all)) top) ∙ v.found

-- a place in a list holds something
pub no-row : {X : Type 0} (xs : List X) (i : ℕ) → i < length xs → None ≡ slice_get xs i → ⊥
no-row xs i h e = let x = there_in xs i h in let no : None ≡ Some (x.0) = e ∙ x.1 in cc
