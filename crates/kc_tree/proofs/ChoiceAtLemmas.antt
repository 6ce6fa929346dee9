-- The choice that an entry begins is found by halves: the entries of the choices rise.
use Rattle.std.proofs.{Common.{Bool, List, None, Some, [], ap, arith, cond, eq-eqb, false, get_or, inl, inr, length, nat_lt, refl, suc, sym, true, ℕ, ◌<◌, ◌∙◌, ◌∷◌, ◌≡◌, ◌≢◌, ◌≤◌}, lemmas.{Bool.{Decides.nat_tests, cases_lt, le-ltb, lt-ltb}, List.Sums.position_or_len_is, Option.{get_or_from_slice_get, slice_get_within}}}
use Rattle.std.specs.{List.{Sorted.IsNonDecreasingBy, position, slice_get}, Prelude.{count_by, ◌==◌, ◌⊎◌}}
use Rattle.kc_language.specs.{Expansion.numbers, Symbols.choice_number}
use Rattle.kc_entries.proofs.PlaceLemmas.{there_in}
use Rattle.kc_tree.specs.{EntryViews.{begins_choice, entry_count, index_of, statements_in}, Layouts.choice_at, Places.IsPointAt, declared.{layout.Layout.Layout, rows.Choice.Choice}}
use Rattle.kc_tree.proofs.{ChoiceLemmas.{IsChoice, choice-at, choice-there}, EntryListLemmas.choice-number, ListLemmas.count-between}

-- The place of the first element that passes a test.
module _ {X : Type 0} (p : X → Bool) (xs : List X) where
  abbrev NoneBefore : ℕ → Type 0
  NoneBefore n = (k : ℕ) (y : X) → k < n → slice_get xs k ≡ Some y → p y ≡ false

  before : (n k : ℕ) (d : X) → NoneBefore n → n ≤ length xs → k < n → p (get_or xs k d) ≡ false
  before n k d none h b = let y = there_in xs k (omega (arith, b, h)) in ap p (get_or_from_slice_get xs k (y.0) d (y.1)) ∙ none k (y.0) b (y.1)

  pub position-at : (i : ℕ) (x : X) → slice_get xs i ≡ Some x → p x ≡ true → NoneBefore i → position p xs ≡ Some i
  position-at i x e h none =
      let within = slice_get_within xs i x e in
      let is = position_or_len_is p xs i x (omega (arith, within)) (λ k b. before i k x none (omega (arith, within)) b) (λ l. ap p (get_or_from_slice_get xs i x x e) ∙ h) in
      ap (λ n. cond (nat_lt n (length xs)) (Some n) None) is ∙ ap (λ b. cond b (Some i) None) (lt-ltb i (length xs) within)

  pub position-none : NoneBefore (length xs) → position p xs ≡ None
  position-none none = by xs refl
    where
      by : (ys : List X) → xs ≡ ys → position p xs ≡ None
      by [] e = ap (position p) e
      by (y ∷ ys) e =
          let is = position_or_len_is p xs (length xs) y (omega arith) (λ k b. before (length xs) k y none (omega arith) b) (λ l. absurd (omega (arith, l))) in
          ap (λ n. cond (nat_lt n (length xs)) (Some n) None) is ∙ ap (λ b. cond b (Some (length xs)) None) (le-ltb (length xs) (length xs) (omega arith))

differs : (a b : ℕ) → a ≢ b → (a == b) ≡ false
differs a b h = grind (arith, nat_tests)

below : (a b : ℕ) → nat_lt a b ≡ true → a < b
below a b h = grind (arith, nat_tests)

not-below : (a b : ℕ) → nat_lt a b ≡ false → b ≤ a
not-below a b h = grind (arith, nat_tests)

module _ (l : Layout) where
  abbrev xs : List Choice
  xs = l.choices.items

  number : (k : ℕ) (c : Choice) (e : ℕ) → IsChoice l k c e → count_by (begins_choice l.entries) (numbers e) ≡ k
  number k c e is = let there = is.there in sym (choice-number l.entries e (omega (arith, there))) ∙ is.number

  rises : (j k : ℕ) (c d : Choice) → slice_get xs j ≡ Some c → slice_get xs k ≡ Some d → j < k → c.entry.0 < d.entry.0
  rises j k c d g h b =
      let e = choice-at l j c g in
      let f = choice-at l k d h in
      let first = (e.1).entry in
      let second = (f.1).entry in
      let up = by (e.0) (f.0) (number j c (e.0) (e.1)) (number k d (f.0) (f.1)) (cases_lt (e.0) (f.0)) in
      omega (arith, first, second, up)
    where
      by : (m n : ℕ) → count_by (begins_choice l.entries) (numbers m) ≡ j → count_by (begins_choice l.entries) (numbers n) ≡ k → (m < n) ⊎ (n ≤ m) → m < n
      by m n p q (inl up) = up
      by m n p q (inr down) = let fewer = count-between (begins_choice l.entries) n m down in absurd (omega (arith, fewer, p, q, b))

  pub entries-rise : IsNonDecreasingBy (λ (c : Choice). c.entry.0) l.choices.items
  entries-rise i j d low within =
      let x = there_in l.choices.items i (omega (arith, low, within)) in
      let y = there_in l.choices.items j within in
      let first = ap (λ (c : Choice). c.entry.0) (get_or_from_slice_get l.choices.items i (x.0) d (x.1)) in
      let second = ap (λ (c : Choice). c.entry.0) (get_or_from_slice_get l.choices.items j (y.0) d (y.1)) in
      by (x.0) (y.0) (x.1) (y.1) first second (cases_lt i j)
    where
      by : (a b : Choice) → slice_get l.choices.items i ≡ Some a → slice_get l.choices.items j ≡ Some b → (get_or l.choices.items i d).entry.0 ≡ a.entry.0 → (get_or l.choices.items j d).entry.0 ≡ b.entry.0 →
          (i < j) ⊎ (j ≤ i) → (get_or l.choices.items i d).entry.0 ≤ (get_or l.choices.items j d).entry.0
      by a b g h p q (inl less) = let up = rises i j a b g h less in omega (arith, up, p, q)
      by a b g h p q (inr more) = let same : i ≡ j = omega (arith, more, low) in let e = ap (λ n. (get_or l.choices.items n d).entry.0) same in omega (arith, e)

  pub at-place : (at i : ℕ) (c : Choice) → slice_get l.choices.items i ≡ Some c → c.entry.0 ≡ at → choice_at l at ≡ Some i
  at-place at i c e is =
      position-at (λ (x : Choice). x.entry.0 == at) l.choices.items i c e (eq-eqb c.entry.0 at is)
      (λ k d b g. let up = rises k i d c g e b in differs d.entry.0 at (λ q. absurd (omega (arith, up, is, q))))

  -- where the search ends there is another one, or none
  no-place : (at i : ℕ) → IsPointAt at l.choices.items i → ((c : Choice) → slice_get l.choices.items i ≡ Some c → c.entry.0 ≢ at) → choice_at l at ≡ None
  no-place at i point none =
      position-none (λ (x : Choice). x.entry.0 == at) l.choices.items
      (λ k d b g. differs d.entry.0 at (λ q. by k d b q (ap (λ (c : Choice). c.entry.0) (get_or_from_slice_get l.choices.items k d d g)) (cases_lt k i)))
    where
      by : (k : ℕ) (d : Choice) → k < length l.choices.items → d.entry.0 ≡ at → (get_or l.choices.items k d).entry.0 ≡ d.entry.0 → (k < i) ⊎ (i ≤ k) → ⊥
      by k d w q here (inl b) = let low = below (get_or l.choices.items k d).entry.0 at (point.0 k d (omega arith) b) in omega (arith, low, here, q)
      by k d w q here (inr b) =
          let x = there_in l.choices.items i (omega (arith, b, w)) in
          let at_x : (get_or l.choices.items i d).entry.0 ≡ (x.0).entry.0 = ap (λ (c : Choice). c.entry.0) (get_or_from_slice_get l.choices.items i (x.0) d (x.1)) in
          let high = not-below (get_or l.choices.items i d).entry.0 at (point.1 i d (omega arith) (omega (arith, b, w))) in
          let up : (get_or l.choices.items i d).entry.0 ≤ (get_or l.choices.items k d).entry.0 = entries-rise i k d b w in
          none (x.0) (x.1) (omega (arith, at_x, high, up, here, q))

  pub other-place : (at i : ℕ) → IsPointAt at l.choices.items i → (c : Choice) → slice_get l.choices.items i ≡ Some c → c.entry.0 ≢ at → choice_at l at ≡ None
  other-place at i point c e apart = no-place at i point (λ d g q. apart (let same : Some c ≡ Some d = sym e ∙ g in (let is : c ≡ d = cc in ap (λ (x : Choice). x.entry.0) is) ∙ q))

  pub past-place : (at i : ℕ) → IsPointAt at l.choices.items i → slice_get l.choices.items i ≡ None → choice_at l at ≡ None
  past-place at i point e = no-place at i point (λ d g. absurd (let never : None ≡ Some d = sym e ∙ g in cc))

  -- The choice that an entry begins has its number.
  pub choice-at-entry : (e : ℕ) → e < entry_count l.entries → begins_choice l.entries e ≡ true → choice_at l (suc e) ≡ Some (choice_number (statements_in l.entries) (index_of l.entries e))
  choice-at-entry e h b = let is = choice-there l e h b in at-place (suc e) (choice_number (statements_in l.entries) (index_of l.entries e)) is.row is.at is.entry

  pub choice-at-none : (e : ℕ) → begins_choice l.entries e ≡ false → choice_at l (suc e) ≡ None
  choice-at-none e b =
      position-none (λ (x : Choice). x.entry.0 == suc e) l.choices.items
      (λ k c w g. let f = choice-at l k c g in differs c.entry.0 (suc e) (λ q.
      let entry = (f.1).entry in
      let same : f.0 ≡ e = omega (arith, q, entry) in
      let no : true ≡ false = sym ((f.1).begins) ∙ ap (begins_choice l.entries) same ∙ b in cc))
