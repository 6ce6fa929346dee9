-- What stands where, one entry more.
use Rattle.std.proofs.{Common.{Bool, List, None, Option, Some, [], ap, arith, cond, false, filter, inl, inr, length, map, nat_lt, refl, subst, suc, sym, true, zero, ℕ, ◌&&◌, ◌++◌, ◌+◌, ◌-◌, ◌<◌, ◌||◌, ◌∙◌, ◌∷◌, ◌≡◌, ◌≤◌}, lemmas.{Bool.{Decides.nat_tests, eq-eqb, eqb-true, false≢true, ne_eqb}, List.{Elements.{filter-append, filter_map-append}, Sums.{count_by-le-length, length-filter}, append-nil, length-append, length-map, map-append}, Option.{get_or_from_slice_get, slice_get-map, slice_get_within}}}
use Rattle.std.specs.{List.{cons_option, filter_map, list_any, slice_get}, Option.{is_some, option_and_then}, Prelude.{option_map, slice_index_or, ◌==◌, ◌⊎◌}}
use Rattle.kc_language.specs.{Expansion.{Bracket, Closes, NoBracket, Opens, bracket, defined_name, enclosing, is_attribute, last_of, numbers}, Statements.{ChoiceLine, ConfigLine, Numbered}, Symbols.{choice_number, enclosing_choice, listed, of_block, prompt_of, range_in, stated_default, symbol_at, target_of}, declared.expressions.SymId.SymId}
use Rattle.kc_language.specs.declared.statements.Block.TheVariants as block
use Rattle.kc_entries.specs.{Entries.{BeginsAt, lines_from, own_of, start_at}, EntryStarts.start_of, ListFacts.AreChoicesApart, PartsOfSymbols.{enclosing_block, is_member_index}, StatementViews.{attribute_view, head_view}, declared.{entries.{AttributeLine.AttributeLine, Entries.Entries, Entry.Entry, EntryLines.EntryLines}, statement.Attribute.Attribute}}
use Rattle.kc_entries.specs.declared.statement.Attribute.TheVariants as attribute
use Rattle.kc_entries.proofs.{ElementLemmas.get_snoc, EnclosingLemmas.{enclosing-no, enclosing-opens, last-snoc}, EntryLemmas.{front-is, starts-before, starts-within}, MemberLemmas.below_or_past, PlaceLemmas.{length-numbers, there_in}}
use Rattle.kc_tree.specs.{EntryViews.{begins_choice, entry_count, entry_symbol, head_at, index_at, index_of, is_choice_line, said_by, statements_in, statements_of}, Places.{asks, asks_at, last_said, place_at, says, shows, shows_at, shows_before, top_place}, Stored.stored, declared.rows.{Choice.Choice, EntryId.EntryId, EntryPlace.EntryPlace, VisibleId.VisibleId}}
use Rattle.kc_tree.proofs.{EntryListLemmas.{choice-number, filter-before, no-name}, IndexLemmas.{attribute-there, entry-first, head-there, index-end, index-next, index-there, said-count, said-there}, ListLemmas.{filter-below, map-map_is}}
use Rattle.kc_build.specs.{Nesting.AreBlocksClosed, Standing.{AreBlocksBefore, AreBlocksOf, AreNone, AreStanding, ChoiceRow, HasPlace, HasTurned, Stands, change, choice_row, members_before, own_place, rows_of, turned_block, turned_choice, turned_rows, with_last_member, with_member}, declared.blocks.Blocks.Blocks}
use Rattle.kc_build.proofs.{ChangeLemmas.{change-here, change-other, change-unseen, mapped}, OpenChoiceLemmas.{choice-last, choice-turned, closed, closed-none, number-up}, OwnPlaceLemmas.{IsOwn, own-is}}

-- ---- Lists
get-front : {X : Type 0} (xs : List X) (y d : X) (e : ℕ) → e < length xs → slice_index_or (xs ++ y ∷ []) e d ≡ slice_index_or xs e d
get-front [] y d e h = absurd (omega (arith, h))
get-front (x ∷ xs) y d zero h = refl
get-front (x ∷ xs) y d (suc e) h = get-front xs y d e (omega (arith, h))

place_at-front : (places : List EntryPlace) (q : EntryPlace) (at : ℕ) → at ≤ length places → place_at (places ++ q ∷ []) at ≡ place_at places at
place_at-front places q zero h = refl
place_at-front places q (suc e) h = get-front places q top_place e (omega (arith, h))

none-pass : (ns : List ℕ) → filter (λ n. false) ns ≡ []
none-pass [] = refl
none-pass (n ∷ ns) = none-pass ns

-- of numbers below one none passes
pub none-below : (p : ℕ → Bool) (n : ℕ) → ((i : ℕ) → i < n → p i ≡ false) → filter p (numbers n) ≡ []
none-below p n h = filter-below p (λ i. false) n h ∙ none-pass (numbers n)

entry-cond : (b : Bool) (x y : EntryId) → (cond b x y).0 ≡ cond b x.0 y.0
entry-cond true x y = refl
entry-cond false x y = refl

visible-cond : (b : Bool) (n : ℕ) (y : VisibleId) → (cond b (record { 0 = n }) y).0 ≡ cond b n y.0
visible-cond true n y = refl
visible-cond false n y = refl

-- the menus with a `visible if` line, with one that may have one
module _ (n : ℕ) (v at : ℕ) where
  less : nat_lt n (suc n) ≡ true
  less = grind (arith, nat_tests)

  not-less : v ≤ n → nat_lt n v ≡ false
  not-less h = grind (arith, nat_tests)

-- ---- Attributes open and close nothing
attribute-bracket : (a : Attribute) → bracket (attribute_view a) ≡ NoBracket
attribute-bracket attribute.Help = refl
attribute-bracket _ = refl

own-bracket : (l : List AttributeLine) (j : ℕ) (s : Numbered) → slice_get (statements_of l) j ≡ Some s → bracket s ≡ NoBracket
own-bracket [] j s h = absurd cc
own-bracket (a ∷ l) zero s h = let same : attribute_view a.attribute ≡ s = cc in ap bracket (sym same) ∙ attribute-bracket a.attribute
own-bracket (a ∷ l) (suc j) s h = own-bracket l j s h

module _ (es : Entries) where
  abbrev ss : List Numbered
  ss = statements_in es

  -- ---- Which blocks are open behind an entry
  behind : (i : ℕ) (x : Entry) → slice_get es.first_lines.items i ≡ Some x → (k : ℕ) → k ≤ length (said_by es i) → enclosing ss (suc (index_of es i) + k) ≡ enclosing ss (suc (index_of es i))
  behind i x h zero l = let z : suc (index_of es i) + 0 ≡ suc (index_of es i) = omega arith in ap (enclosing ss) z
  behind i x h (suc k) l =
      let z : suc (index_of es i) + suc k ≡ suc (suc (index_of es i) + k) = omega arith in
      let s = there_in (said_by es i) k (omega (arith, l)) in
      let at : slice_get ss (suc (index_of es i) + k) ≡ Some (s.0) = attribute-there es i k x h (omega (arith, l)) ∙ s.1 in
      let none = own-bracket (own_of x (start_at es (suc i)) es.attributes.items) k (s.0) (ap (λ r. slice_get r k) (sym (said-there es i x h)) ∙ s.1) in
      ap (enclosing ss) z ∙ enclosing-no ss (suc (index_of es i) + k) (s.0) at none ∙ behind i x h k (omega (arith, l))

  enclosing-behind : (i : ℕ) (x : Entry) → slice_get es.first_lines.items i ≡ Some x → enclosing ss (index_of es (suc i)) ≡ enclosing ss (suc (index_of es i))
  enclosing-behind i x h = ap (enclosing ss) (index-next es i x h) ∙ behind i x h (length (said_by es i)) (omega arith)

  pub choice-behind : (i : ℕ) (x : Entry) → slice_get es.first_lines.items i ≡ Some x → enclosing_choice ss (index_of es (suc i)) ≡ enclosing_choice ss (suc (index_of es i))
  choice-behind i x h = ap (λ js. option_map (choice_number ss) (last_of (filter (of_block ss block.Choice) js))) (enclosing-behind i x h)

  -- ---- Choices and members before an entry
  no-member : (k i : ℕ) → symbol_at ss i ≡ None → is_member_index ss k i ≡ false
  no-member k i e = ap (λ o. is_some o && list_any (λ j. j == k) (listed (enclosing_choice ss i))) e

  not-member : (k i : ℕ) (s : Numbered) → slice_get ss i ≡ Some s → is_attribute s ≡ true → is_member_index ss k i ≡ false
  not-member k i s h a = no-member k i (ap (option_and_then defined_name) h ∙ no-name s a)

  abbrev more : ℕ → ℕ → List SymId
  more i k = filter_map (symbol_at ss) (cond (is_member_index ss k (index_of es i)) (index_of es i ∷ []) [])

  members-more : (i k : ℕ) → i < entry_count es → members_before es (suc i) k ≡ members_before es i k ++ more i k
  members-more i k h =
      let q = is_member_index ss k in
      let here = index_of es i in
      ap (filter_map (symbol_at ss))
      (filter-before es (is_member_index ss k) (not-member k) (suc i) (omega (arith, h))
      ∙ ap (map (index_of es)) (filter-append (λ e. is_member_index ss k (index_of es e)) (numbers i) (i ∷ []))
      ∙ map-append (index_of es) (filter (λ e. is_member_index ss k (index_of es e)) (numbers i)) (cond (is_member_index ss k (index_of es i)) (i ∷ []) [])
      ∙ (λ j. sym (filter-before es (is_member_index ss k) (not-member k) i (omega (arith, h))) j ++ one (is_member_index ss k (index_of es i)) j))
      ∙ filter_map-append (symbol_at ss) (filter (is_member_index ss k) (numbers (index_of es i))) (cond (is_member_index ss k (index_of es i)) (index_of es i ∷ []) [])
    where
      one : (b : Bool) → map (index_of es) (cond b (i ∷ []) []) ≡ cond b (index_of es i ∷ []) []
      one true = refl
      one false = refl

  members-same : (i k : ℕ) → i < entry_count es → is_member_index ss k (index_of es i) ≡ false → members_before es (suc i) k ≡ members_before es i k
  members-same i k h n =
      members-more i k h ∙ ap (λ b. members_before es i k ++ filter_map (symbol_at ss) (cond b (index_of es i ∷ []) [])) n ∙ append-nil (members_before es i k)

  members-one : (i k : ℕ) (s : SymId) → i < entry_count es → symbol_at ss (index_of es i) ≡ Some s → is_member_index ss k (index_of es i) ≡ true →
      members_before es (suc i) k ≡ members_before es i k ++ s ∷ []
  members-one i k s h e n =
      members-more i k h ∙ ap (λ b. members_before es i k ++ filter_map (symbol_at ss) (cond b (index_of es i ∷ []) [])) n
      ∙ ap (λ o. members_before es i k ++ cons_option o []) e

  -- ---- Rows of choices
  abbrev AreMembersAt : ℕ → List ChoiceRow → Type 0
  AreMembersAt i rows = (k : ℕ) (r : ChoiceRow) → slice_get rows k ≡ Some r → r.1 ≡ members_before es i k

  module _ (apart : AreChoicesApart ss) where
    -- no member stands in a choice before the choice begins
    not-yet-by : (n j : ℕ) (o : Option ℕ) → enclosing_choice ss j ≡ o → j < n → n ≤ length ss → list_any (λ c. c == choice_number ss n) (listed o) ≡ false
    not-yet-by n j None e h l = refl
    not-yet-by n j (Some c) e h l =
        let last = choice-last ss apart j c (omega (arith, h, l)) e in
        let z : j + (n - j) ≡ n = omega (arith, h) in
        let up = number-up ss j (n - j) in
        let same : choice_number ss (j + (n - j)) ≡ choice_number ss n = ap (choice_number ss) z in
        ap (λ b. b || false) (ne_eqb c (choice_number ss n) (λ q. omega (arith, last, up, same, q)))

    and-false : (a b : Bool) → b ≡ false → (a && b) ≡ false
    and-false true b e = e
    and-false false b e = refl

    none-yet : (n : ℕ) → n ≤ length ss → filter_map (symbol_at ss) (filter (is_member_index ss (choice_number ss n)) (numbers n)) ≡ []
    none-yet n l =
        ap (filter_map (symbol_at ss))
        (none-below (is_member_index ss (choice_number ss n)) n
        (λ j h. and-false (is_some (symbol_at ss j)) (list_any (λ c. c == choice_number ss n) (listed (enclosing_choice ss j))) (not-yet-by n j (enclosing_choice ss j) refl h l)))

    module _ (i : ℕ) (there : i < entry_count es) (within : index_of es i ≤ length ss) where
      abbrev idx : ℕ
      idx = index_of es i

      rows-stay : (s : Numbered) (rows : List ChoiceRow) → slice_get ss (index_of es i) ≡ Some s → defined_name s ≡ None → AreMembersAt i rows → AreMembersAt (suc i) rows
      rows-stay s rows h n a k r g = a k r g ∙ sym (members-same i k there (no-member k (index_of es i) (ap (option_and_then defined_name) h ∙ n)))

      one-or-same : (s : SymId) (c k : ℕ) (rows : List ChoiceRow) (r : ChoiceRow) (b : Bool) → symbol_at ss (index_of es i) ≡ Some s → enclosing_choice ss (index_of es i) ≡ Some c →
          (c == k) ≡ b → AreMembersAt i rows → slice_get (change (with_member s) c rows) k ≡ Some r → r.1 ≡ members_before es (suc i) k
      one-or-same s c k rows r true e o t a g =
          let same : k ≡ c = sym (eqb-true c k t) in
          let old = mapped-one (slice_get rows k) r (sym (change-here (with_member s) rows k) ∙ ap (λ n. slice_get (change (with_member s) n rows) k) same ∙ g) in
          let is : is_member_index ss k (index_of es i) ≡ true =
          ap (λ p. is_some p && list_any (λ j. j == k) (listed (enclosing_choice ss (index_of es i)))) e
          ∙ ap (λ p. list_any (λ j. j == k) (listed p)) o ∙ ap (λ b. b || false) t in
          ap (λ (q : ChoiceRow). q.1) (sym (old.2)) ∙ ap (λ l. l ++ s ∷ []) (a k (old.0) (old.1)) ∙ sym (members-one i k s there e is)
        where
          mapped-one : (o : Option ChoiceRow) (r : ChoiceRow) → option_map (with_member s) o ≡ Some r → (q : ChoiceRow) × (o ≡ Some q) × (with_member s q ≡ r)
          mapped-one None r h = absurd cc
          mapped-one (Some q) r h = (q, refl, (let same : with_member s q ≡ r = cc in same))
      one-or-same s c k rows r false e o t a g =
          let old : slice_get rows k ≡ Some r = sym (change-other (with_member s) rows c k (λ q. absurd (false≢true (sym t ∙ eq-eqb c k (sym q))))) ∙ g in
          let is : is_member_index ss k (index_of es i) ≡ false =
          ap (λ p. is_some p && list_any (λ j. j == k) (listed (enclosing_choice ss (index_of es i)))) e
          ∙ ap (λ p. list_any (λ j. j == k) (listed p)) o ∙ ap (λ b. b || false) t in
          a k r old ∙ sym (members-same i k there is)

      rows-member : (s : SymId) (o : Option ℕ) (rows : List ChoiceRow) → slice_get ss (index_of es i) ≡ Some (ConfigLine s) → enclosing_choice ss (index_of es i) ≡ o →
          length rows ≡ choice_number ss (index_of es i) → AreMembersAt i rows → AreMembersAt (suc i) (with_last_member (is_some o) s rows)
      rows-member s None rows h o n a k r g =
          let is : is_member_index ss k (index_of es i) ≡ false =
          ap (λ p. is_some p && list_any (λ j. j == k) (listed (enclosing_choice ss (index_of es i)))) (ap (option_and_then defined_name) h)
          ∙ ap (λ p. list_any (λ j. j == k) (listed p)) o in
          a k r g ∙ sym (members-same i k there is)
      rows-member s (Some c) rows h o n a k r g =
          let last = choice-last ss apart (index_of es i) c within o in
          let z : length rows - 1 ≡ c = omega (arith, last, n) in
          one-or-same s c k rows r (c == k) (ap (option_and_then defined_name) h) o refl a (ap (λ m. slice_get (change (with_member s) m rows) k) (sym z) ∙ g)

      rows-open : (at : ℕ) (rows : List ChoiceRow) → slice_get ss (index_of es i) ≡ Some ChoiceLine → length rows ≡ choice_number ss (index_of es i) →
          AreMembersAt i rows → AreMembersAt (suc i) (rows ++ (at, []) ∷ [])
      rows-open at rows h n a k r g = by (get_snoc rows (at, []) r k g)
        where
          stays : members_before es (suc i) k ≡ members_before es i k
          stays = members-same i k there (no-member k (index_of es i) (ap (option_and_then defined_name) h))

          by : ((slice_get rows k ≡ Some r) ⊎ ((k ≡ length rows) × ((at, []) ≡ r))) → r.1 ≡ members_before es (suc i) k
          by (inl old) = a k r old ∙ sym stays
          by (inr new) =
              let z : k ≡ choice_number ss (index_of es i) = new.0 ∙ n in
              ap (λ (q : ChoiceRow). q.1) (sym (new.1))
              ∙ sym (stays ∙ ap (λ m. filter_map (symbol_at ss) (filter (is_member_index ss m) (numbers (index_of es i)))) z ∙ none-yet (index_of es i) within)

      -- the rows behind the entry
      rows-turned : (at : EntryId) (s : Numbered) (rows : List ChoiceRow) → slice_get ss (index_of es i) ≡ Some s → length rows ≡ choice_number ss (index_of es i) →
          AreMembersAt i rows → AreMembersAt (suc i) (turned_rows at s (is_some (enclosing_choice ss (index_of es i))) rows)
      rows-turned at (ConfigLine s) rows h n a = rows-member s (enclosing_choice ss (index_of es i)) rows h refl n a
      rows-turned at ChoiceLine rows h n a = rows-open at.0 rows h n a
      rows-turned at s rows h n a = rows-stay s rows h refl a

  entries-turned : (at : EntryId) (s : Numbered) (b : Bool) (rows : List ChoiceRow) →
      map (λ (r : ChoiceRow). r.0) (turned_rows at s b rows) ≡ map (λ (r : ChoiceRow). r.0) rows ++ cond (is_choice_line (Some s)) (at.0 ∷ []) []
  entries-turned at (ConfigLine s) true rows = change-unseen (λ (r : ChoiceRow). r.0) (with_member s) (λ r. refl) rows (length rows - 1) ∙ sym (append-nil (map (λ (r : ChoiceRow). r.0) rows))
  entries-turned at ChoiceLine b rows = map-append (λ (r : ChoiceRow). r.0) rows ((at.0, []) ∷ [])
  entries-turned at s b rows = sym (append-nil (map (λ (r : ChoiceRow). r.0) rows))

  -- ---- Places
  keeps : (places : List EntryPlace) (q : EntryPlace) (e : ℕ) (p : EntryPlace) → e < length places → Stands es places e p → Stands es (places ++ q ∷ []) e p
  keeps places q e p h s =
      let low : p.outer.0 ≤ e = s.before in
      let same = place_at-front places q p.outer.0 (omega (arith, low, h)) in
      record {
        outer = s.outer;
        before = s.before;
        context = s.context ∙ ap (λ (r : EntryPlace). cond (asks_at es e) (suc e) r.context.0) (sym same);
        visible = s.visible ∙ ap (λ (r : EntryPlace). cond (shows_at es e) (suc (shows_before es e)) r.visible.0) (sym same);
        prompt = s.prompt;
        has_default = s.has_default;
        has_range = s.has_range;
        has_target = s.has_target;
      }

  -- what an entry says that was read by its number
  pub said-is : (i : ℕ) (x : EntryLines) → BeginsAt es i x → statements_of x.attributes.now ≡ said_by es i
  said-is i x h = ap statements_of h.own ∙ sym (said-there es i x.first.now h.first)

  pub symbol-said : (i : ℕ) (x : EntryLines) → BeginsAt es i x → entry_symbol es i ≡ defined_name (head_view x.first.now.head)
  symbol-said i x h = ap (λ (o : Option Entry). option_and_then defined_name (option_map (λ (y : Entry). head_view y.head) o)) h.first

  -- One entry more.
  module _ (i : ℕ) (b : Blocks) (x : EntryLines) (h : BeginsAt es i x) (so : AreBlocksBefore es i b) (at : EntryId) (is : at.0 ≡ suc i) where
    abbrev head : Numbered
    head = head_view x.first.now.head

    abbrev own : List Numbered
    own = statements_of x.attributes.now

    abbrev p : EntryPlace
    p = own_place b at x

    abbrev around : EntryPlace
    around = place_at b.places.items b.block.0

    abbrev placed : List EntryPlace
    placed = b.places.items ++ own_place b at x ∷ []

    parts : IsOwn (place_at b.places.items b.block.0) b.block at (length b.visibles.items) x.first.now.start (head_view x.first.now.head) (statements_of x.attributes.now) (own_place b at x)
    parts = own-is b at x

    head-said : head_at es i ≡ Some (head_view x.first.now.head)
    head-said = ap (option_map (λ (y : Entry). head_view y.head)) h.first

    own-said : statements_of x.attributes.now ≡ said_by es i
    own-said = said-is i x h

    start : x.first.now.start ≡ start_at es i
    start = sym (ap (λ l. start_of l (length es.attributes.items)) (front-is i es.first_lines.items x.first.now h.first))

    shown : length b.visibles.items ≡ shows_before es i
    shown =
        sym (length-map b.visibles.items (λ (v : EntryId). v.0)) ∙ ap length so.visibles ∙ length-map (filter (shows_at es) (numbers i)) suc ∙ length-filter (shows_at es) (numbers i)

    asks-here : asks (Some (head_view x.first.now.head)) (statements_of x.attributes.now) ≡ asks_at es i
    asks-here = λ j. asks (sym head-said j) (own-said j)

    shows-here : shows (Some (head_view x.first.now.head)) (statements_of x.attributes.now) ≡ shows_at es i
    shows-here = λ j. shows (sym head-said j) (own-said j)

    around-same : place_at b.places.items b.block.0 ≡ place_at (b.places.items ++ own_place b at x ∷ []) (own_place b at x).outer.0
    around-same =
        let low = so.before in
        let size = so.count in
        sym (place_at-front b.places.items (own_place b at x) b.block.0 (omega (arith, low, size)))
        ∙ ap (λ (o : EntryId). place_at (b.places.items ++ own_place b at x ∷ []) o.0) (sym parts.outer)

    visible-here : (own_place b at x).visible.0 ≡ cond (shows_at es i) (suc (shows_before es i)) (place_at b.places.items b.block.0).visible.0
    visible-here =
        ap (λ (v : VisibleId). v.0) parts.visible
        ∙ visible-cond (shows (Some (head_view x.first.now.head)) (statements_of x.attributes.now)) (suc (length b.visibles.items)) (place_at b.places.items b.block.0).visible
        ∙ (λ j. cond (shows-here j) (suc (shown j)) (place_at b.places.items b.block.0).visible.0)

    stands : Stands es (b.places.items ++ own_place b at x ∷ []) i (own_place b at x)
    stands = record {
      outer = ap (λ (o : EntryId). index_at es o.0) parts.outer ∙ so.block;
      before = (let same : (own_place b at x).outer.0 ≡ b.block.0 = ap (λ (o : EntryId). o.0) parts.outer in let low = so.before in omega (arith, same, low));
      context =
          ap (λ (o : EntryId). o.0) parts.context
          ∙ entry-cond (asks (Some (head_view x.first.now.head)) (statements_of x.attributes.now)) at (place_at b.places.items b.block.0).context
          ∙ (λ j. cond (asks-here j) (is j) (around-same j).context.0);
      visible = visible-here ∙ ap (λ (r : EntryPlace). cond (shows_at es i) (suc (shows_before es i)) r.visible.0) around-same;
      prompt = parts.prompt ∙ (λ j. stored (option_map (λ k. start j + k) (last_said prompt_of (own-said j))));
      has_default = parts.has_default ∙ ap (says stated_default) own-said;
      has_range = parts.has_range ∙ ap (says range_in) own-said;
      has_target = parts.has_target ∙ ap (says target_of) own-said;
    }

    -- the menus with a `visible if` line
    place-within : (places : List EntryPlace) (n : ℕ) → ((e : ℕ) (q : EntryPlace) → slice_get places e ≡ Some q → q.visible.0 ≤ n) → (e : ℕ) → e ≤ length places → (place_at places e).visible.0 ≤ n
    place-within places n all zero l = omega arith
    place-within places n all (suc e) l =
        let q = there_in places e (omega (arith, l)) in
        let low = all e (q.0) (q.1) in
        let same : (place_at places (suc e)).visible.0 ≡ (q.0).visible.0 = ap (λ (r : EntryPlace). r.visible.0) (get_or_from_slice_get places e (q.0) top_place (q.1)) in
        omega (arith, low, same)

    around-within : (place_at b.places.items b.block.0).visible.0 ≤ length b.visibles.items
    around-within =
        let low = so.before in
        let size = so.count in
        place-within b.places.items (length b.visibles.items) so.within b.block.0 (omega (arith, low, size))

    abbrev shown_next : Bool → List EntryId
    shown_next c = cond c (b.visibles.items ++ at ∷ []) b.visibles.items

    -- behind the entry, by whether it is such a menu
    record IsShown (vs : List EntryId) : Type 0 where
      visibles : map (λ (v : EntryId). v.0) vs ≡ map suc (filter (shows_at es) (numbers (suc i)))
      within : (own_place b at x).visible.0 ≤ length vs
      longer : length b.visibles.items ≤ length vs

    shown-by : (c : Bool) → shows_at es i ≡ c → IsShown (shown_next (nat_lt (length b.visibles.items) (own_place b at x).visible.0))
    shown-by true t =
        let v : (own_place b at x).visible.0 ≡ suc (length b.visibles.items) =
        visible-here ∙ ap (λ c. cond c (suc (shows_before es i)) (place_at b.places.items b.block.0).visible.0) t ∙ ap suc (sym shown) in
        let more : nat_lt (length b.visibles.items) (own_place b at x).visible.0 ≡ true = ap (nat_lt (length b.visibles.items)) v ∙ less (length b.visibles.items) 0 0 in
        let size = length-append b.visibles.items (at ∷ []) in
        subst (λ c. IsShown (shown_next c)) (sym more) (record {
          visibles =
              map-append (λ (v : EntryId). v.0) b.visibles.items (at ∷ [])
              ∙ (λ j. so.visibles j ++ is j ∷ [])
              ∙ sym (map-append suc (filter (shows_at es) (numbers i)) (i ∷ []))
              ∙ ap (λ c. map suc (filter (shows_at es) (numbers i) ++ cond c (i ∷ []) [])) (sym t)
              ∙ ap (map suc) (sym (filter-append (shows_at es) (numbers i) (i ∷ [])));
          within = omega (arith, v, size);
          longer = omega (arith, size);
        })
    shown-by false t =
        let v : (own_place b at x).visible.0 ≡ (place_at b.places.items b.block.0).visible.0 =
        visible-here ∙ ap (λ c. cond c (suc (shows_before es i)) (place_at b.places.items b.block.0).visible.0) t in
        let low = around-within in
        let more : nat_lt (length b.visibles.items) (own_place b at x).visible.0 ≡ false = not-less (length b.visibles.items) (own_place b at x).visible.0 0 (omega (arith, v, low)) in
        subst (λ c. IsShown (shown_next c)) (sym more) (record {
          visibles =
              so.visibles
              ∙ ap (map suc) (sym (append-nil (filter (shows_at es) (numbers i))))
              ∙ ap (λ c. map suc (filter (shows_at es) (numbers i) ++ cond c (i ∷ []) [])) (sym t)
              ∙ ap (map suc) (sym (filter-append (shows_at es) (numbers i) (i ∷ [])));
          within = omega (arith, v, low);
          longer = omega arith;
        })

    -- the blocks
    module _ (apart : AreChoicesApart ss) (ends : AreBlocksClosed ss) where
      there : i < entry_count es
      there = h.there

      line : slice_get ss (index_of es i) ≡ Some (head_view x.first.now.head)
      line = head-there es i x.first.now h.first

      within : index_of es i ≤ length ss
      within = let w = slice_get_within ss (index_of es i) (head_view x.first.now.head) line in omega (arith, w)

      -- the innermost block behind the entry, and that it begins before what follows
      abbrev IsOpen : EntryId → Type 0
      IsOpen block = (index_at es block.0 ≡ enclosing_block ss (index_of es (suc i))) × (block.0 ≤ suc i)

      behind-is : (js : List ℕ) (block : ℕ) → enclosing ss (suc (index_of es i)) ≡ js → index_at es block ≡ last_of js → index_at es block ≡ enclosing_block ss (index_of es (suc i))
      behind-is js block e o = o ∙ ap last_of (sym (enclosing-behind i x.first.now h.first ∙ e))

      closed-by : (n : ℕ) → b.block.0 ≡ n → bracket (head_view x.first.now.head) ≡ Closes → IsOpen (place_at b.places.items n).outer
      closed-by zero q e =
          let none : enclosing_block ss (index_of es i) ≡ None = sym so.block ∙ ap (index_at es) q in
          (behind-is [] 0 (closed-none ss (index_of es i) (head_view x.first.now.head) line e none) refl, omega arith)
      closed-by (suc k) q e =
          let low = so.before in
          let size = so.count in
          let below : k < i = omega (arith, low, q) in
          let y = there_in es.first_lines.items k (omega (arith, below, there)) in
          let inner : enclosing_block ss (index_of es i) ≡ Some (index_of es k) = sym so.block ∙ ap (index_at es) q ∙ index-there es k (y.0) (y.1) in
          let r = there_in b.places.items k (omega (arith, below, size)) in
          let same : place_at b.places.items (suc k) ≡ r.0 = get_or_from_slice_get b.places.items k (r.0) top_place (r.1) in
          let s = so.standing k (r.0) (r.1) in
          let before : (r.0).outer.0 ≤ k = s.before in
          subst IsOpen (ap (λ (t : EntryPlace). t.outer) (sym same)) (
            behind-is (enclosing ss (index_of es k)) (r.0).outer.0 (closed ss (index_of es i) (index_of es k) (head_view x.first.now.head) within line e inner) s.outer,
            omega (arith, before, below),
          )

      block-by : (c : Bracket) → bracket (head_view x.first.now.head) ≡ c → IsOpen (turned_block at (place_at b.places.items b.block.0).outer b.block c)
      block-by (Opens k) e = (
        ap (index_at es) is ∙ index-there es i x.first.now h.first
            ∙ sym (ap last_of (enclosing-behind i x.first.now h.first ∙ enclosing-opens ss (index_of es i) (head_view x.first.now.head) k line e) ∙ last-snoc (enclosing ss (index_of es i)) (index_of es i)),
        omega (arith, is),
      )
      block-by Closes e = closed-by b.block.0 refl e
      block-by NoBracket e = (
        so.block ∙ sym (ap last_of (enclosing-behind i x.first.now h.first ∙ enclosing-no ss (index_of es i) (head_view x.first.now.head) line e)),
        (let low = so.before in omega (arith, low)),
      )

      count-is : length (rows_of b) ≡ choice_number ss (index_of es i)
      count-is =
          length-map b.choices.items choice_row
          ∙ sym (length-map b.choices.items (λ (c : Choice). c.entry.0)) ∙ ap length so.choice_entries ∙ length-map (filter (begins_choice es) (numbers i)) suc
          ∙ length-filter (begins_choice es) (numbers i) ∙ sym (choice-number es i (omega (arith, there)))

      members-are : AreMembersAt i (rows_of b)
      members-are k r g =
          let c = mapped choice_row b.choices.items k r g in
          ap (λ (q : ChoiceRow). q.1) (sym (c.2)) ∙ so.members k (c.0) (c.1)

      pub next-standing : (one two : Blocks) → HasPlace b at x one → HasTurned at (head_view x.first.now.head) one two → AreBlocksBefore es (suc i) two
      next-standing one two g t =
          let places : two.places.items ≡ b.places.items ++ own_place b at x ∷ [] = ap (λ v. v.items) t.keeps.places ∙ g.places in
          let visibles : two.visibles.items ≡ shown_next (nat_lt (length b.visibles.items) (own_place b at x).visible.0) = ap (λ v. v.items) t.keeps.visibles ∙ g.visibles in
          let rows : rows_of two ≡ turned_rows at (head_view x.first.now.head) (is_some (enclosing_choice ss (index_of es i))) (rows_of b) =
          t.rows ∙ (λ j. turned_rows at (head_view x.first.now.head) ((g.is_in_choice ∙ so.is_in_choice) j) (map choice_row ((ap (λ v. v.items) g.choices) j))) in
          let s = shown-by (shows_at es i) refl in
          let vs : IsShown two.visibles.items = subst IsShown (sym visibles) (shown-by (shows_at es i) refl) in
          let size = so.count in
          let low = so.before in
          let one_size = length-append b.places.items (own_place b at x ∷ []) in
          let block : IsOpen two.block =
          subst IsOpen (sym (t.block ∙ (λ j. turned_block at (place_at (g.places j) (g.block j).0).outer (g.block j) (bracket (head_view x.first.now.head)))
          ∙ ap (λ (r : EntryPlace). turned_block at r.outer b.block (bracket (head_view x.first.now.head))) (place_at-front b.places.items (own_place b at x) b.block.0 (omega (arith, low, size)))))
          (block-by (bracket (head_view x.first.now.head)) refl) in
          record {
            count = ap length places ∙ one_size ∙ omega (arith, size);
            standing = subst (AreStanding es) (sym places) stand;
            within = all-within two.places.items two.visibles.items places vs.within vs.longer;
            visibles = vs.visibles;
            choice_entries =
                sym (map-map_is (λ (r : ChoiceRow). r.0) choice_row two.choices.items)
                ∙ ap (map (λ (r : ChoiceRow). r.0)) rows
                ∙ entries-turned at (head_view x.first.now.head) (is_some (enclosing_choice ss (index_of es i))) (rows_of b)
                ∙ (λ j. entries-old j ++ cond (is_choice_line (sym head-said j)) (is j ∷ []) [])
                ∙ entries-next (begins_choice es i) refl;
            members = λ k c e. rows-turned apart i there within at (head_view x.first.now.head) (rows_of b) line count-is members-are k (choice_row c)
                (ap (λ r. slice_get r k) (sym rows) ∙ slice_get-map choice_row two.choices.items k ∙ ap (option_map choice_row) e);
            block = block.0;
            before = block.1;
            is_in_choice =
                t.is_in_choice
                ∙ ap (turned_choice (head_view x.first.now.head)) (g.is_in_choice ∙ so.is_in_choice)
                ∙ sym (choice-turned ss apart ends (index_of es i) within (head_view x.first.now.head) line)
                ∙ ap is_some (sym (choice-behind i x.first.now h.first));
          }
        where
          stand : AreStanding es (b.places.items ++ own_place b at x ∷ [])
          stand e q f = by (get_snoc b.places.items (own_place b at x) q e f)
            where
              by : ((slice_get b.places.items e ≡ Some q) ⊎ ((e ≡ length b.places.items) × (own_place b at x ≡ q))) → Stands es (b.places.items ++ own_place b at x ∷ []) e q
              by (inl old) = keeps b.places.items (own_place b at x) e q (slice_get_within b.places.items e q old) (so.standing e q old)
              by (inr new) =
                  subst (λ r. Stands es (b.places.items ++ own_place b at x ∷ []) e r) (new.1)
                  (subst (λ n. Stands es (b.places.items ++ own_place b at x ∷ []) n (own_place b at x)) (sym (new.0 ∙ so.count)) stands)

          all-within : (places : List EntryPlace) (vs : List EntryId) → places ≡ b.places.items ++ own_place b at x ∷ [] → (own_place b at x).visible.0 ≤ length vs → length b.visibles.items ≤ length vs →
              (e : ℕ) (q : EntryPlace) → slice_get places e ≡ Some q → q.visible.0 ≤ length vs
          all-within places vs same low up e q f = by (get_snoc b.places.items (own_place b at x) q e (ap (λ r. slice_get r e) (sym same) ∙ f))
            where
              by : ((slice_get b.places.items e ≡ Some q) ⊎ ((e ≡ length b.places.items) × (own_place b at x ≡ q))) → q.visible.0 ≤ length vs
              by (inl old) = let w = so.within e q old in omega (arith, w, up)
              by (inr new) = let w : (own_place b at x).visible.0 ≡ q.visible.0 = ap (λ (r : EntryPlace). r.visible.0) (new.1) in omega (arith, w, low)

          entries-old : map (λ (r : ChoiceRow). r.0) (rows_of b) ≡ map suc (filter (begins_choice es) (numbers i))
          entries-old = map-map_is (λ (r : ChoiceRow). r.0) choice_row b.choices.items ∙ so.choice_entries

          entries-next : (c : Bool) → begins_choice es i ≡ c → map suc (filter (begins_choice es) (numbers i)) ++ cond (begins_choice es i) (suc i ∷ []) [] ≡ map suc (filter (begins_choice es) (numbers (suc i)))
          entries-next c e =
              taken c e ∙ sym (map-append suc (filter (begins_choice es) (numbers i)) (cond (begins_choice es i) (i ∷ []) []))
              ∙ ap (map suc) (sym (filter-append (begins_choice es) (numbers i) (i ∷ [])))
            where
              taken : (c : Bool) → begins_choice es i ≡ c → map suc (filter (begins_choice es) (numbers i)) ++ cond (begins_choice es i) (suc i ∷ []) [] ≡ map suc (filter (begins_choice es) (numbers i)) ++ map suc (cond (begins_choice es i) (i ∷ []) [])
              taken true e = ap (λ d. map suc (filter (begins_choice es) (numbers i)) ++ d) (ap (λ d. cond d (suc i ∷ []) []) e ∙ sym (ap (λ d. map suc (cond d (i ∷ []) [])) e))
              taken false e = ap (λ d. map suc (filter (begins_choice es) (numbers i)) ++ d) (ap (λ d. cond d (suc i ∷ []) []) e ∙ sym (ap (λ d. map suc (cond d (i ∷ []) [])) e))

  -- so few menus, and so few attributes
  pub visibles-few : (i : ℕ) (b : Blocks) → AreBlocksBefore es i b → length b.visibles.items ≤ i
  visibles-few i b so =
      let same = sym (length-map b.visibles.items (λ (v : EntryId). v.0)) ∙ ap length so.visibles ∙ length-map (filter (shows_at es) (numbers i)) suc ∙ length-filter (shows_at es) (numbers i) in
      let few = count_by-le-length (shows_at es) (numbers i) in
      let all = length-numbers i in
      omega (arith, same, few, all)

  pub attributes-few : (i : ℕ) (x : EntryLines) → BeginsAt es i x → x.first.now.start + length x.attributes.now ≤ length es.attributes.items
  attributes-few i x h =
      let own : length x.attributes.now ≡ start_at es (suc i) - start_at es i =
      sym (length-map x.attributes.now (λ (a : AttributeLine). attribute_view a.attribute)) ∙ ap length (said-is i x h) ∙ said-count es i x.first.now h.first in
      let begin : start_at es i ≡ x.first.now.start = ap (λ l. start_of l (length es.attributes.items)) (front-is i es.first_lines.items x.first.now h.first) in
      let up = starts-before i es.first_lines.items x.first.now (length es.attributes.items) es.in_order h.first in
      let within = starts-within (suc i) es.first_lines.items (length es.attributes.items) es.in_order in
      omega (arith, own, begin, up, within)

  -- before the first entry, and behind the last one
  pub none-before : (b : Blocks) → AreNone b → AreBlocksBefore es 0 b
  none-before b n =
      record {
        count = ap length n.places;
        standing = λ e p f. absurd (let bad : None ≡ Some p = ap (λ r. slice_get r e) (sym n.places) ∙ f in cc);
        within = λ e p f. absurd (let bad : None ≡ Some p = ap (λ r. slice_get r e) (sym n.places) ∙ f in cc);
        visibles = ap (map (λ (v : EntryId). v.0)) n.visibles;
        choice_entries = ap (map (λ (c : Choice). c.entry.0)) n.choices;
        members = λ k c f. absurd (let bad : None ≡ Some c = ap (λ r. slice_get r k) (sym n.choices) ∙ f in cc);
        block = ap (index_at es) n.block ∙ sym (ap (enclosing_block ss) index-zero);
        before = (let z = n.block in omega (arith, z));
        is_in_choice = n.is_in_choice ∙ sym (ap (λ k. is_some (enclosing_choice ss k)) index-zero);
      }
    where
      index-zero : index_of es 0 ≡ 0
      index-zero = omega arith

  -- there is no entry more
  pub no-entry : (i : ℕ) → i ≤ entry_count es → lines_from es i ≡ [] → i ≡ entry_count es
  no-entry i l none = by (below_or_past i (entry_count es))
    where
      by : ((i < entry_count es) ⊎ (entry_count es ≤ i)) → i ≡ entry_count es
      by (inl below) =
          let x = there_in es.first_lines.items i below in
          absurd (let no : None ≡ Some (x.0) = entry-first es i None none ∙ x.1 in cc)
      by (inr past) = omega (arith, l, past)

  pub all-standing : (i : ℕ) (b : Blocks) → i ≡ entry_count es → AreBlocksBefore es i b → AreBlocksOf es b
  all-standing i b e so = record {
    count = so.count ∙ e;
    standing = so.standing;
    visibles = so.visibles ∙ ap (λ n. map suc (filter (shows_at es) (numbers n))) e;
    choice_entries = so.choice_entries ∙ ap (λ n. map suc (filter (begins_choice es) (numbers n))) e;
    members = λ k c f. so.members k c f ∙ ap (λ n. filter_map (symbol_at ss) (filter (is_member_index ss k) (numbers n))) (ap (index_of es) e ∙ index-end es);
  }
