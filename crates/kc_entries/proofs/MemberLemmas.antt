-- Where no member is refused, a symbol is a member of its choice alone.
use Rattle.std.proofs.{Common.{Bool, List, None, Option, Some, [], add-one, ap, arith, false, filter, if◌then◌else◌, inl, inr, length, not, refl, suc, sym, true, zero, ℕ, ◌&&◌, ◌++◌, ◌<◌, ◌==◌, ◌||◌, ◌∙◌, ◌∷◌, ◌≡◌, ◌≤◌}, lemmas.{Bool.eqb-true, List.append-nil}}
use Rattle.std.specs.{List.{cons_option, filter_map, list_any, slice_get}, Option.is_some, Prelude.◌⊎◌}
use Rattle.kc_language.specs.{Expansion.numbers, Expressions.same_symbol, Statements.Numbered, Symbols.{bad_members, choice_of, definitions_of, enclosing_choice, indices, is_first_definition, is_first_definition_at, is_symbol_of, listed, symbol_at, type_of}, declared.expressions.SymId.SymId}
use Rattle.kc_entries.specs.PartsOfSymbols.{first_of, first_of_symbol, is_bad_member, is_member, is_member_index, symbol_of}
use Rattle.kc_entries.proofs.{EnclosingLemmas.there, FirstLemmas.{first-is, some_places}, PlaceLemmas.filter-next, StackLemmas.no_snoc}

-- some element passes among those that a function gives of the elements that are kept
kept_any : {A B : Type 0} (p : B → Bool) (f : A → Option B) (q : A → Bool) (b : Bool) (o : Option B) (x : A) (xs : List A) → q x ≡ b → f x ≡ o →
    list_any p (filter_map f (filter q xs)) ≡ list_any (λ y. q y && list_any p (listed (f y))) xs →
    list_any p (filter_map f (filter q (x ∷ xs))) ≡ list_any (λ y. q y && list_any p (listed (f y))) (x ∷ xs)
kept_any p f q false o x xs e g h = rw e h
kept_any p f q true None x xs e g h = rw (e, g) h
kept_any p f q true (Some y) x xs e g h = rw (e, g) (more (p y) h)
  where
    more : {u v : Bool} (b : Bool) → u ≡ v → (b || u) ≡ ((b || false) || v)
    more true h = refl
    more false h = h

pub any_kept : {A B : Type 0} (p : B → Bool) (f : A → Option B) (q : A → Bool) (xs : List A) → list_any p (filter_map f (filter q xs)) ≡ list_any (λ y. q y && list_any p (listed (f y))) xs
any_kept p f q [] = refl
any_kept p f q (x ∷ xs) = kept_any p f q (q x) (f x) x xs refl refl (any_kept p f q xs)

same_any : {A : Type 0} (f g : A → Bool) (xs : List A) → ((x : A) → f x ≡ g x) → list_any f xs ≡ list_any g xs
same_any f g [] h = refl
same_any f g (x ∷ xs) h = rw (h x, same_any f g xs h) refl

-- what is kept of the first numbers is nothing
filter_step : (q : ℕ → Bool) (n : ℕ) (b : Bool) → q n ≡ b → filter q (numbers (suc n)) ≡ filter q (numbers n) ++ (if b then n ∷ [] else [])
filter_step q n b e =
    (rw add-one at (filter-next q n)) ∙ ap (λ (c : Bool). filter q (numbers n) ++ (if c then n ∷ [] else [])) e

not_kept : (q : ℕ → Bool) (n : ℕ) → q n ≡ false → filter q (numbers (suc n)) ≡ filter q (numbers n)
not_kept q n e = filter_step q n false e ∙ append-nil (filter q (numbers n))

pub below_or_past : (i n : ℕ) → (i < n) ⊎ (n ≤ i)
below_or_past i zero = inr (omega arith)
below_or_past zero (suc n) = inl (omega arith)
below_or_past (suc i) (suc n) =
    elim (below_or_past i n) as (λ _. (suc i < suc n) ⊎ (suc n ≤ suc i)) [
      | inl l ↦ inl (omega arith)
      | inr g ↦ inr (omega arith)
    ]

none_kept : (q : ℕ → Bool) (n i : ℕ) (b : Bool) → q n ≡ b → filter q (numbers (suc n)) ≡ [] → i < suc n → (filter q (numbers n) ≡ [] → i < n → q i ≡ false) → q i ≡ false
none_kept q n i true e h l ih = absurd (no_snoc (filter q (numbers n)) n (sym (filter_step q n true e) ∙ h))
none_kept q n i false e h l ih = last (below_or_past i n)
  where
    last : (i < n) ⊎ (n ≤ i) → q i ≡ false
    last (inl below) = ih (sym (not_kept q n e) ∙ h) below
    last (inr past) = let same : i ≡ n = omega arith in rw same e

pub passes_none : (q : ℕ → Bool) (n i : ℕ) → filter q (numbers n) ≡ [] → i < n → q i ≡ false
passes_none q zero i h l = absurd (omega arith)
passes_none q (suc n) i h l = none_kept q n i (q n) refl h l (passes_none q n i)

turned : (a b : Bool) → (a && (b || false)) ≡ (b && a)
turned true true = refl
turned true false = refl
turned false true = refl
turned false false = refl

module _ (ss : List Numbered) (t : SymId) where
  abbrev defines : ℕ → Bool
  defines i = is_symbol_of t (symbol_at ss i)

  no_places : (ds : List ℕ) → not (some_places ds) ≡ true → ds ≡ []
  no_places [] h = refl
  no_places (d ∷ ds) h = cc

  -- before a first definition there is none
  no_earlier : (n : ℕ) → n ≤ length ss → is_first_definition ss n t ≡ true → filter defines (numbers n) ≡ []
  no_earlier n h f = no_places (filter defines (numbers n)) (sym (first-is ss n t h) ∙ f)

  abbrev One : List ℕ → Type 0
  One ds = (ds ≡ []) ⊎ ((d : ℕ) × (ds ≡ d ∷ []))

  one_by : (n : ℕ) (b : Bool) → n ≤ length ss → defines n ≡ b → (b ≡ true → is_first_definition ss n t ≡ true) → One (filter defines (numbers n)) → One (filter defines (numbers (suc n)))
  one_by n true h e first ih =
      let none = no_earlier n h (first refl) in
      inr (n, filter_step defines n true e ∙ ap (λ (l : List ℕ). l ++ n ∷ []) none)
  one_by n false h e first ih = rw (not_kept defines n e) ih

  one_definition : (n : ℕ) → n ≤ length ss → ((i : ℕ) → i < n → defines i ≡ true → is_first_definition ss i t ≡ true) → One (filter defines (numbers n))
  one_definition zero h first = inl refl
  one_definition (suc n) h first =
      one_by n (defines n) (omega arith) refl (first n (omega arith)) (one_definition n (omega arith) (λ i l. first i (omega arith)))

  -- no member is refused: a definition of a member is its first
  not_bad : (c first other : Bool) → ((c && not first) || other) ≡ false → c ≡ true → first ≡ true
  not_bad true true other h e = refl
  not_bad true false other h e = cc
  not_bad false first other h e = cc

  or_none : (a : Bool) → (a || false) ≡ false → a ≡ false
  or_none true h = cc
  or_none false h = refl

  same_is : (u : SymId) → same_symbol t u ≡ true → u ≡ t
  same_is u h = let n : t.0 ≡ u.0 = same_number t.0 u.0 h in λ i. record { 0 = sym n i }
    where
      same_number : (a b : ℕ) → (a == b) ≡ true → a ≡ b
      same_number a b h = eqb-true a b h

  pub bad_at : (i : ℕ) (s : Numbered) → bad_members ss ≡ [] → i < length ss → slice_get ss i ≡ Some s →
      is_bad_member (type_of ss) (choice_of ss) (is_first_definition_at ss i) (enclosing_choice ss i) s ≡ false
  bad_at i s none l h =
      let q = λ (j : ℕ). list_any (is_bad_member (type_of ss) (choice_of ss) (is_first_definition_at ss j) (enclosing_choice ss j)) (listed (slice_get ss j)) in
      let nothing = passes_none q (length ss) i none l in
      or_none (is_bad_member (type_of ss) (choice_of ss) (is_first_definition_at ss i) (enclosing_choice ss i) s)
      (sym (ap (λ (o : Option Numbered). list_any (is_bad_member (type_of ss) (choice_of ss) (is_first_definition_at ss i) (enclosing_choice ss i))
      (listed o)) h) ∙ nothing)

  -- a definition of a member is its first
  first_by_place : (i : ℕ) (u : SymId) (other : Bool) → symbol_at ss i ≡ Some u → same_symbol t u ≡ true →
      (((is_some (choice_of ss u) && not (is_first_definition_at ss i)) || other) || false) ≡ false → is_some (choice_of ss t) ≡ true →
      is_first_definition ss i t ≡ true
  first_by_place i u other e same bad member =
      let one = same_is u same in
      let first : is_first_definition_at ss i ≡ true = not_bad (is_some (choice_of ss u)) (is_first_definition_at ss i) other (or_none _ bad)
      (ap (λ (v : SymId). is_some (choice_of ss v)) one ∙ member) in
      ap (is_first_definition ss i) (sym one) ∙ sym (ap (first_of_symbol ss i) e) ∙ first

  first_by : (i : ℕ) (s : Numbered) (o : Option SymId) → slice_get ss i ≡ Some s → symbol_at ss i ≡ o →
      is_bad_member (type_of ss) (choice_of ss) (is_first_definition_at ss i) (enclosing_choice ss i) s ≡ false → is_some (choice_of ss t) ≡ true →
      defines i ≡ true → is_first_definition ss i t ≡ true
  first_by i s None h e bad member d = let no : defines i ≡ false = (rw e refl) in cc
  first_by i s (Some u) h e bad member d =
      let named : symbol_of (Some s) ≡ Some u = sym (ap symbol_of h) ∙ e in
      let same : same_symbol t u ≡ true = sym (ap (is_symbol_of t) e) ∙ d in
      first_by_place i u _ e same (rw named at bad) member

  first_if : bad_members ss ≡ [] → is_some (choice_of ss t) ≡ true → (i : ℕ) → i < length ss → defines i ≡ true → is_first_definition ss i t ≡ true
  first_if none member i l d =
      let s = there ss i l in
      first_by i s.0 (symbol_at ss i) s.1 refl (bad_at i s.0 none l s.1) member d

  abbrev is_number : ℕ → ℕ → Bool
  is_number k d = d == k

  abbrev chosen : List ℕ → List ℕ
  chosen ds = filter_map (enclosing_choice ss) ds

  single : (k : ℕ) (o : Option ℕ) → list_any (is_number k) (cons_option o []) ≡ list_any (is_number k) (listed (first_of (cons_option o [])))
  single k None = refl
  single k (Some d) = refl

  of_one : (k : ℕ) (ds : List ℕ) → One ds → list_any (is_number k) (chosen ds) ≡ list_any (is_number k) (listed (first_of (chosen ds)))
  of_one k ds (inl e) = rw e refl
  of_one k ds (inr d) = rw (d.1) (single k (enclosing_choice ss (d.0)))

  none_first : (xs : List ℕ) → first_of xs ≡ None → xs ≡ []
  none_first [] h = refl
  none_first (x ∷ xs) h = cc

  by_choice : (k : ℕ) (o : Option ℕ) → bad_members ss ≡ [] → choice_of ss t ≡ o →
      list_any (is_number k) (chosen (definitions_of ss t)) ≡ list_any (is_number k) (listed (first_of (chosen (definitions_of ss t))))
  by_choice k None none e = rw (none_first (chosen (definitions_of ss t)) e) refl
  by_choice k (Some c) none e =
      of_one k (definitions_of ss t) (one_definition (length ss) (omega arith) (first_if none (ap is_some e)))

  swapped : (k i : ℕ) (o : Option SymId) → symbol_at ss i ≡ o →
      (is_member_index ss k i && list_any (same_symbol t) (listed (symbol_at ss i))) ≡ (defines i && list_any (is_number k) (listed (enclosing_choice ss i)))
  swapped k i None e = rw e refl
  swapped k i (Some u) e = rw e (turned (list_any (is_number k) (listed (enclosing_choice ss i))) (same_symbol t u))

  pub member_is : bad_members ss ≡ [] → (k : ℕ) → is_member ss k t ≡ list_any (λ d. d == k) (listed (choice_of ss t))
  member_is none k =
      any_kept (same_symbol t) (symbol_at ss) (is_member_index ss k) (indices ss)
      ∙ same_any (λ (i : ℕ). is_member_index ss k i && list_any (same_symbol t) (listed (symbol_at ss i)))
      (λ (i : ℕ). defines i && list_any (is_number k) (listed (enclosing_choice ss i))) (indices ss) (λ i. swapped k i (symbol_at ss i) refl)
      ∙ sym (any_kept (is_number k) (enclosing_choice ss) defines (indices ss))
      ∙ by_choice k (choice_of ss t) none refl
