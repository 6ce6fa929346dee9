-- The entries of a list whose blocks are well nested: the end of a menu names that menu.
use Rattle.std.proofs.{Common.{Bool, List, None, Option, Some, [], ap, arith, cond, false, if◌then◌else◌, inl, inr, is_some, length, length-append, refl, subst, suc, sym, true, zero, ℕ, ◌++◌, ◌+◌, ◌<◌, ◌∙◌, ◌∷◌, ◌≡◌, ◌≤◌}, lemmas.List.Elements.filter_map-append}
use Rattle.std.specs.{List.{cons_option, count_by, filter_map, slice_get}, Prelude.◌⊎◌}
use Rattle.kc_language.specs.{Expansion.numbers, Statements.{ConfigLine, EndMenuLine, MenuLine, Numbered}, Symbols.{Condition, EndShown, MenuShown, Shown, SymbolShown, is_first_definition, shown_at, shows_entry}, declared.expressions.SymId.SymId}
use Rattle.kc_entries.specs.PartsOfSymbols.{enclosing_block, entries, shown_number, shown_when}
use Rattle.kc_entries.proofs.{ChoiceLemmas.fewer_before, EnclosingLemmas.{last_is_nested, there}, MemberLemmas.below_or_past, PlaceLemmas.{count_next, end_get, front_get}}
use Rattle.kc_read.proofs.{ExpansionLemmas.AreNested, NestLemmas.menu_closed}

get_snoc : {X : Type 0} (xs : List X) (o : Option X) (i : ℕ) (x : X) → slice_get (xs ++ cons_option o []) i ≡ Some x → (slice_get xs i ≡ Some x) ⊎ ((i ≡ length xs) × (o ≡ Some x))
get_snoc [] None i x e = absurd cc
get_snoc [] (Some y) zero x e = inr (refl, e)
get_snoc [] (Some y) (suc i) x e = absurd cc
get_snoc (y ∷ xs) o zero x e = inl e
get_snoc {X} (y ∷ xs) o (suc i) x e = next (get_snoc xs o i x e)
  where
    next : (slice_get xs i ≡ Some x) ⊎ ((i ≡ length xs) × (o ≡ Some x)) → (slice_get xs i ≡ Some x) ⊎ ((suc i ≡ suc (length xs)) × (o ≡ Some x))
    next (inl f) = inl f
    next (inr f) = inr (ap suc f.0, f.1)

-- What a function gives of the numbers below n, where a test says at which it gives something.
module _ {X : Type 0} (f : ℕ → Option X) (p : ℕ → Bool) where
  abbrev Tells : ℕ → Type 0
  Tells n = (j : ℕ) → j < n → p j ≡ is_some (f j)

  given_next : (n : ℕ) → filter_map f (numbers (suc n)) ≡ filter_map f (numbers n) ++ cons_option (f n) []
  given_next n = filter_map-append f (numbers n) (n ∷ [])

  one_more : (o : Option X) → length (cons_option o []) ≡ cond (is_some o) 1 0
  one_more None = refl
  one_more (Some x) = refl

  -- so many are given before n
  so_many : (n : ℕ) → Tells n → length (filter_map f (numbers n)) ≡ count_by p (numbers n)
  so_many zero h = refl
  so_many (suc n) h =
      let before = so_many n (λ j l. h j (omega arith)) in
      let here : length (cons_option (f n) []) ≡ cond (p n) 1 0 = one_more (f n) ∙ ap (λ (b : Bool). cond b 1 0) (sym (h n (omega arith))) in
      let whole : length (filter_map f (numbers (suc n))) ≡ length (filter_map f (numbers n)) + length (cons_option (f n) []) = ap length (given_next n)
      ∙ length-append (filter_map f (numbers n)) (cons_option (f n) []) in
      let all = count_next p n in
      omega arith

  -- what is given at a number stands after what is given before it
  stands_by : (n j : ℕ) (x : X) → (j < n) ⊎ (n ≤ j) → Tells (suc n) → j < suc n → f j ≡ Some x →
      (j < n → slice_get (filter_map f (numbers n)) (count_by p (numbers j)) ≡ Some x) →
      slice_get (filter_map f (numbers (suc n))) (count_by p (numbers j)) ≡ Some x
  stands_by n j x (inl below) h l e before =
      ap (λ (ys : List X). slice_get ys (count_by p (numbers j))) (given_next n)
      ∙ front_get (filter_map f (numbers n)) (cons_option (f n) []) (count_by p (numbers j)) x (before below)
  stands_by n j x (inr past) h l e before =
      let same : j ≡ n = omega arith in
      let many : count_by p (numbers j) ≡ length (filter_map f (numbers n)) = ap (λ (k : ℕ). count_by p (numbers k)) same ∙ sym (so_many n (λ k l. h k (omega arith))) in
      let last : f n ≡ Some x = sym (ap f same) ∙ e in
      ap (slice_get (filter_map f (numbers (suc n)))) many
      ∙ ap (λ (ys : List X). slice_get ys (length (filter_map f (numbers n)))) (given_next n ∙ ap (λ o. filter_map f (numbers n) ++ cons_option o []) last)
      ∙ end_get (filter_map f (numbers n)) x

  pub stands_at : (n j : ℕ) (x : X) → Tells n → j < n → f j ≡ Some x → slice_get (filter_map f (numbers n)) (count_by p (numbers j)) ≡ Some x
  stands_at zero j x h l e = absurd (omega arith)
  stands_at (suc n) j x h l e =
      stands_by n j x (below_or_past j n) h l e (λ below. stands_at n j x (λ k m. h k (omega arith)) below e)

  -- what stands there is given at some number
  abbrev pub IsGiven : ℕ → ℕ → X → Type 0
  IsGiven n i x = (j : ℕ) × (j < n) × (f j ≡ Some x) × (i ≡ count_by p (numbers j))

  given_by : (n i : ℕ) (x : X) → Tells (suc n) → (slice_get (filter_map f (numbers n)) i ≡ Some x → IsGiven n i x) →
      (slice_get (filter_map f (numbers n)) i ≡ Some x) ⊎ ((i ≡ length (filter_map f (numbers n))) × (f n ≡ Some x)) → IsGiven (suc n) i x
  given_by n i x h before (inl e) =
      let g = before e in
      let l = g.1 in
      (g.0, omega arith, g.2, g.3)
  given_by n i x h before (inr e) = (n, omega arith, e.1, e.0 ∙ so_many n (λ k l. h k (omega arith)))

  pub is_given : (n i : ℕ) (x : X) → Tells n → slice_get (filter_map f (numbers n)) i ≡ Some x → IsGiven n i x
  is_given zero i x h e = absurd cc
  is_given (suc n) i x h e =
      given_by n i x h (λ g. is_given n i x (λ k l. h k (omega arith)) g)
      (get_snoc (filter_map f (numbers n)) (f n) i x (sym (ap (λ (ys : List X). slice_get ys i) (given_next n)) ∙ e))

-- The entries of nested statements.
module _ (ss : List Numbered) (nested : AreNested ss) where
  abbrev line_entry : ℕ → Option Shown
  line_entry j = shown_at ss j (slice_get ss j)

  abbrev is_line_entry : ℕ → Bool
  is_line_entry j = shows_entry ss j (slice_get ss j)

  first_tells : (b : Bool) (s : SymId) → b ≡ is_some (if b then Some (SymbolShown s) else None)
  first_tells true s = refl
  first_tells false s = refl

  tells_by : (j : ℕ) (s : Numbered) → slice_get ss j ≡ Some s → shows_entry ss j (Some s) ≡ is_some (shown_at ss j (Some s))
  tells_by j (ConfigLine s) e = first_tells (is_first_definition ss j s) s
  tells_by j EndMenuLine e =
      let k = menu_closed ss nested j e in
      rw (k.1) refl
  tells_by j (MenuLine t) e = refl
  tells_by j _ e = refl

  tells : (j : ℕ) → j < length ss → is_line_entry j ≡ is_some (line_entry j)
  tells j l =
      let s = there ss j l in
      rw (s.1) (tells_by j s.0 s.1)

  -- the menu that an `endmenu` line closes stands before it among the entries
  menu_before : (i : ℕ) → i < length ss → slice_get ss i ≡ Some EndMenuLine → (k : ℕ) × (enclosing_block ss i ≡ Some k)
      × ((shown_number ss k < shown_number ss i) × ((text : List ℕ) × (when : Condition)
      × (slice_get (entries ss) (shown_number ss k) ≡ Some (MenuShown text when))))
  menu_before i l e =
      let k = menu_closed ss nested i e in
      let before = (last_is_nested ss i k.0 (omega arith) k.1).before in
      let opens : is_line_entry k.0 ≡ true = ap (shows_entry ss k.0) k.2.1 in
      let shown : line_entry k.0 ≡ Some (MenuShown k.2.0 (shown_when ss k.0)) = ap (shown_at ss k.0) k.2.1 in (
        k.0,
        k.1,
        (
          fewer_before is_line_entry k.0 i before opens,
          (k.2.0, shown_when ss k.0, stands_at line_entry is_line_entry (length ss) k.0 (MenuShown k.2.0 (shown_when ss k.0)) tells (omega arith) shown),
        ),
      )

  abbrev IsMenuBefore : ℕ → ℕ → Type 0
  IsMenuBefore i menu = (menu < i) × ((text : List ℕ) × (when : Condition) × (slice_get (entries ss) menu ≡ Some (MenuShown text when)))

  no_end : (s : SymId) (menu : ℕ) (b : Bool) → (if b then Some (SymbolShown s) else None) ≡ Some (EndShown menu) → ⊥
  no_end s menu true h = cc
  no_end s menu false h = cc

  end_by : (j menu : ℕ) (s : Numbered) → j < length ss → slice_get ss j ≡ Some s → shown_at ss j (Some s) ≡ Some (EndShown menu) → IsMenuBefore (shown_number ss j) menu
  end_by j menu (ConfigLine s) l at h = absurd (no_end s menu (is_first_definition ss j s) h)
  end_by j menu EndMenuLine l at h =
      let k = menu_before j l at in
      let same : shown_number ss k.0 ≡ menu = (let g = (rw (k.1) at h) in cc) in
      subst (IsMenuBefore (shown_number ss j)) same k.2
  end_by j menu (MenuLine t) l at h = absurd cc
  end_by j menu _ l at h = absurd cc

  -- the end of a menu names a menu that stands before it
  pub end_names_menu : (i menu : ℕ) → slice_get (entries ss) i ≡ Some (EndShown menu) → IsMenuBefore i menu
  end_names_menu i menu h =
      let j = is_given line_entry is_line_entry (length ss) i (EndShown menu) tells h in
      let s = there ss j.0 j.1 in
      subst (λ n. IsMenuBefore n menu) (sym j.3) (end_by j.0 menu s.0 j.1 s.1 (sym (ap (shown_at ss j.0) s.1) ∙ j.2))
