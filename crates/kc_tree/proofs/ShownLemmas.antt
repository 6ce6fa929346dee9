-- The entries of the menu, by the entries of the tree and their places.
use Rattle.std.proofs.{Common.{Bool, List, None, Option, Some, [], ap, append_assoc, arith, cond, eq-eqb, false, filter, length, map, not, refl, suc, sym, true, zero, ℕ, ◌++◌, ◌+◌, ◌-◌, ◌<◌, ◌∙◌, ◌∷◌, ◌≡◌, ◌≤◌}, Math.Bool.or-false, lemmas.{Bool.Decides.nat_tests, List.Sums.length-filter, Option.slice_get_within}}
use Rattle.std.specs.{List.{filter_map, list_any, slice_get}, Option.option_and_then, Prelude.{count_by, option_map, ◌==◌}}
use Rattle.kc_language.specs.{Expansion.{defined_name, is_attribute, numbers}, Statements.{CommentLine, ConfigLine, EndMenuLine, MenuLine, Numbered}, Symbols.{CommentShown, EndShown, MenuShown, SymbolShown, dependency, indices, is_first_definition, is_symbol_of, listed, own_visible, shown_at, shown_under, shows_entry, symbol_at}, declared.expressions.SymId.SymId}
use Rattle.kc_entries.specs.{PartsOfSymbols.{enclosing_visible, first_of}, declared.entries.Entries.Entries}
use Rattle.kc_entries.proofs.{ElementLemmas.kept_at, FirstLemmas.{first-is, some_places}, PlaceLemmas.there_in}
use Rattle.kc_tree.specs.{EntryViews.{entry_count, entry_numbers, entry_symbol, head_at, index_at, index_of, said_by, statements_in}, Layouts.{entries_in, is_first, is_shown, place_of, shown_before, shown_of, title_condition, visible_at}, Places.shows, Stored.{stored, unstored}, declared.{layout.Layout.Layout, rows.Symbol.Symbol}}
use Rattle.kc_tree.proofs.{DefinitionLemmas.{is_plain, plain-dependency}, EntryListLemmas.{count-before, definitions-numbers, filter-before, no-name}, IndexLemmas.{attributes-is, flat-entries, head-is, head-there, index-there, symbol-is}, ListLemmas.{filter-below, flat-below, flat-filter_map, up_to, up_to-longer, up_to-step}, OuterLemmas.{entry-there, outer-below, place-is, visible-by}, VisibleLemmas.visible-is}

-- The first number that passes is the one before which none does.
module _ (q : ℕ → Bool) where
  other : (x k : ℕ) → x < k → (suc x == suc k) ≡ false
  other x k h = grind (arith, nat_tests)

  first-by : (k : ℕ) (xs ys : List ℕ) → ((x : ℕ) → slice_get xs 0 ≡ Some x → x < k) → (stored (first_of ((xs ++ k ∷ []) ++ ys)) == suc k) ≡ not (some_places xs)
  first-by k [] ys h = eq-eqb (suc k) (suc k) refl
  first-by k (x ∷ xs) ys h = other x k (h x refl)

  pub first-passing : (k n : ℕ) → k < n → q k ≡ true → (stored (first_of (up_to q n)) == suc k) ≡ not (some_places (up_to q k))
  first-passing k n h p =
      let more = up_to-longer q (suc k) n (omega (arith, h)) in
      ap (λ xs. stored (first_of xs) == suc k) (more.1 ∙ ap (λ r. r ++ more.0) (up_to-step q k p))
      ∙ first-by k (up_to q k) (more.0) (λ x e. (kept_at q k 0 x e).below)

pub some-map : (f : ℕ → ℕ) (xs : List ℕ) → some_places (map f xs) ≡ some_places xs
some-map f [] = refl
some-map f (x ∷ xs) = refl

-- Attributes are no entries of the menu.
module _ (ss : List Numbered) where
  no-entry : (i : ℕ) (s : Numbered) → is_attribute s ≡ true → shows_entry ss i (Some s) ≡ false
  no-entry i (ConfigLine s) h = absurd cc
  no-entry i (MenuLine t) h = absurd cc
  no-entry i EndMenuLine h = absurd cc
  no-entry i (CommentLine t) h = absurd cc
  no-entry i _ h = refl

  no-shown : (i : ℕ) (s : Numbered) → is_attribute s ≡ true → shown_at ss i (Some s) ≡ None
  no-shown i (ConfigLine s) h = absurd cc
  no-shown i (MenuLine t) h = absurd cc
  no-shown i EndMenuLine h = absurd cc
  no-shown i (CommentLine t) h = absurd cc
  no-shown i _ h = refl

module _ (l : Layout) where
  abbrev es : Entries
  es = l.entries

  abbrev ss : List Numbered
  ss = statements_in es

  -- The first definition of a symbol.
  row-first : (k : ℕ) (s : SymId) (row : Symbol) → slice_get l.symbols.items s.0 ≡ Some row → k < entry_count es → entry_symbol es k ≡ Some s →
      is_first l (suc k) s ≡ not (some_places (filter (λ j. is_symbol_of s (entry_symbol es j)) (numbers k)))
  row-first k s row e h d =
      ap (λ o. list_any (λ (r : Symbol). r.first.0 == suc k) (listed o)) e
      ∙ or-false (row.first.0 == suc k)
      ∙ ap (λ n. n == suc k) ((l.laid.symbols_are s.0 row e).first ∙ ap (λ xs. stored (first_of xs)) (definitions-numbers es s))
      ∙ first-passing (λ j. is_symbol_of s (entry_symbol es j)) k (entry_count es) h (ap (is_symbol_of s) d ∙ eq-eqb s.0 s.0 refl)

  pub first-definition : (k : ℕ) (s : SymId) → k < entry_count es → entry_symbol es k ≡ Some s → is_first_definition ss (index_of es k) s ≡ is_first l (suc k) s
  first-definition k s h d =
      let x = entry-there l k h in
      let within = slice_get_within ss (index_of es k) _ (head-there es k (x.0) (x.1)) in
      let row = there_in l.symbols.items s.0 (l.laid.symbols_there k s d) in
      first-is ss (index_of es k) s (omega (arith, within))
      ∙ ap (λ xs. not (some_places xs)) (filter-before es (λ i. is_symbol_of s (symbol_at ss i)) (λ i t g a. ap (is_symbol_of s) (ap (option_and_then defined_name) g ∙ no-name t a)) k (omega (arith, h)))
      ∙ ap not (some-map (index_of es) (filter (λ j. is_symbol_of s (symbol_at ss (index_of es j))) (numbers k)))
      ∙ ap (λ xs. not (some_places xs)) (filter-below (λ j. is_symbol_of s (symbol_at ss (index_of es j))) (λ j. is_symbol_of s (entry_symbol es j)) k (λ j b. ap (is_symbol_of s) (symbol-is es j)))
      ∙ sym (row-first k s (row.0) (row.1) h d)

  -- What is shown, and how many entries before it.
  shows-by : (k : ℕ) (o : Option Numbered) → k < entry_count es → head_at es k ≡ o → shows_entry ss (index_of es k) o ≡ is_shown l (suc k) o
  shows-by k (Some (ConfigLine s)) h e = first-definition k s h (ap (option_and_then defined_name) e)
  shows-by k (Some (MenuLine t)) h e = refl
  shows-by k (Some EndMenuLine) h e = refl
  shows-by k (Some (CommentLine t)) h e = refl
  shows-by k _ h e = refl

  shows-is : (k : ℕ) → k < entry_count es → shows_entry ss (index_of es k) (slice_get ss (index_of es k)) ≡ is_shown l (suc k) (head_at es k)
  shows-is k h = ap (shows_entry ss (index_of es k)) (head-is es k) ∙ shows-by k (head_at es k) h refl

  pub shown-before : (k : ℕ) → k ≤ entry_count es → count_by (λ i. shows_entry ss i (slice_get ss i)) (numbers (index_of es k)) ≡ shown_before l k
  shown-before k h =
      count-before es (λ i. shows_entry ss i (slice_get ss i)) (λ i s g a. ap (shows_entry ss i) g ∙ no-entry ss i s a) k h
      ∙ sym (length-filter (λ j. shows_entry ss (index_of es j) (slice_get ss (index_of es j))) (numbers k))
      ∙ ap length (filter-below (λ j. shows_entry ss (index_of es j) (slice_get ss (index_of es j))) (λ j. is_shown l (suc j) (head_at es j)) k (λ j b. shows-is j (omega (arith, b, h))))
      ∙ length-filter (λ j. is_shown l (suc j) (head_at es j)) (numbers k)

  end-by : (k o : ℕ) → k < entry_count es → o ≤ k →
      option_map (λ j. EndShown (count_by (λ i. shows_entry ss i (slice_get ss i)) (numbers j))) (index_at es o) ≡ option_map (λ menu. EndShown (shown_before l menu)) (unstored o)
  end-by k zero h b = refl
  end-by k (suc m) h b =
      let x = entry-there l m (omega (arith, h, b)) in
      ap (option_map (λ j. EndShown (count_by (λ i. shows_entry ss i (slice_get ss i)) (numbers j)))) (index-there es m (x.0) (x.1))
      ∙ ap (λ n. Some (EndShown n)) (shown-before m (omega (arith, h, b)))

  menu-condition : (k : ℕ) (t : List ℕ) → k < entry_count es → head_at es k ≡ Some (MenuLine t) → shown_under ss (index_of es k) (own_visible ss (index_of es k)) ≡ title_condition l (suc k)
  menu-condition k t h e =
      let i = index_of es k in
      let depends = plain-dependency l k h (ap is_plain e) in
      let menu : enclosing_visible ss (index_of es k) ++ own_visible ss (index_of es k) ≡ visible_at l (place_of l (suc k)).visible.0 =
      visible-by ss (index_of es k) (enclosing_visible ss (index_of es k)) (Some (MenuLine t)) (said_by es k) (attributes-is es k)
      ∙ ap (λ o. enclosing_visible ss (index_of es k) ++ cond (shows o (said_by es k)) (own_visible ss (index_of es k)) []) (sym e)
      ∙ sym (visible-is l k h) in
      ap (λ fs. record { conjuncts = fs; mode = (dependency ss (index_of es k)).mode }) (append_assoc (dependency ss (index_of es k)).conjuncts (enclosing_visible ss (index_of es k)) (own_visible ss (index_of es k)))
      ∙ (λ j. record { conjuncts = (sym depends j).conjuncts ++ menu j; mode = (sym depends j).mode })

  shown-by : (k : ℕ) (o : Option Numbered) → k < entry_count es → head_at es k ≡ o → shown_at ss (index_of es k) o ≡ shown_of l (suc k) o
  shown-by k (Some (ConfigLine s)) h e = ap (λ b. cond b (Some (SymbolShown s)) None) (first-definition k s h (ap (option_and_then defined_name) e))
  shown-by k (Some (MenuLine t)) h e = ap (λ c. Some (MenuShown t c)) (menu-condition k t h e)
  shown-by k (Some EndMenuLine) h e =
      ap (option_map (λ j. EndShown (count_by (λ i. shows_entry ss i (slice_get ss i)) (numbers j)))) (sym ((place-is l k h).outer))
      ∙ end-by k ((place_of l (suc k)).outer.0) h (outer-below l k h)
  shown-by k (Some (CommentLine t)) h e = ap (λ c. Some (CommentShown t c)) (sym (plain-dependency l k h (ap is_plain e)))
  shown-by k _ h e = refl

  pub entries-are : filter_map (λ i. shown_at ss i (slice_get ss i)) (indices ss) ≡ entries_in l
  entries-are =
      flat-filter_map (λ i. shown_at ss i (slice_get ss i)) (indices ss)
      ∙ flat-entries es (λ i. listed (shown_at ss i (slice_get ss i))) (λ i s g a. ap listed (ap (shown_at ss i) g ∙ no-shown ss i s a))
      ∙ flat-below (λ k. listed (shown_at ss (index_of es k) (slice_get ss (index_of es k)))) (λ k. listed (shown_of l (suc k) (head_at es k))) (entry_count es)
      (λ k b. ap listed (ap (shown_at ss (index_of es k)) (head-is es k) ∙ shown-by k (head_at es k) b refl))
      ∙ sym (flat-filter_map (λ k. shown_of l (suc k) (head_at es k)) (entry_numbers es))
