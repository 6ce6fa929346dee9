-- Each defined symbol has an entry.
use Rattle.std.proofs.{Common.{Bool, List, None, Option, Some, [], add-one, ap, arith, false, filter, if◌then◌else◌, inl, inr, length, map, not, refl, suc, sym, true, zero, ℕ, ◌++◌, ◌<◌, ◌∙◌, ◌∷◌, ◌≡◌}, lemmas.{Bool.{cases_eq, eq-eqb, true≢false}, List.Sums.length-filter}}
use Rattle.std.specs.{List.{cons_option, filter_map, slice_get}, Prelude.Contains}
use Rattle.kc_language.specs.{Expansion.numbers, Statements.{ConfigLine, Located, Numbered, statements}, Symbols.{SymbolShown, facts_with, indices, is_first_definition, is_symbol_of, shown_at, symbol_at}, declared.expressions.SymId.SymId}
use Rattle.kc_entries.specs.{ListFacts.defined_before, PartsOfSymbols.{entries, symbol_of}, WellFormed.ShowsEach}
use Rattle.kc_entries.proofs.{ElementLemmas.{kept_at, same_is}, FirstLemmas.{first-is, some_places}, PlaceLemmas.{filter-next, front_get, get-map_numbers}, SymbolListLemmas.defined_line}

-- what is given for one element is among what is given for all
module _ {X Y : Type 0} (f : X → Option Y) where
  later : (o : Option Y) (ys : List Y) (y : Y) → Contains ys y → Contains (cons_option o ys) y
  later None ys y c = c
  later (Some z) ys y c = (suc c.0, (let l : c.0 < length ys = c.1 in let m : suc c.0 < suc (length ys) = omega arith in m), c.2)

  here : (o : Option Y) (ys : List Y) (y : Y) → o ≡ Some y → Contains (cons_option o ys) y
  here None ys y e = absurd cc
  here (Some z) ys y e = (0, (let l : 0 < suc (length ys) = omega arith in l), (let same : z ≡ y = cc in same))

  given_at : (xs : List X) (k : ℕ) (x : X) (y : Y) → slice_get xs k ≡ Some x → f x ≡ Some y → Contains (filter_map f xs) y
  given_at [] k x y e h = absurd cc
  given_at (z ∷ xs) zero x y e h = let same : z ≡ x = cc in here (f z) (filter_map f xs) y (ap f same ∙ h)
  given_at (z ∷ xs) (suc k) x y e h = later (f z) (filter_map f xs) y (given_at xs k x y e h)

map_same : (xs : List ℕ) → map (λ (k : ℕ). k) xs ≡ xs
map_same [] = refl
map_same (x ∷ xs) = ap (λ (ys : List ℕ). x ∷ ys) (map_same xs)

-- a number below another is among the numbers below that
number_at : (n k : ℕ) → k < n → slice_get (numbers n) k ≡ Some k
number_at n k h = sym (ap (λ (xs : List ℕ). slice_get xs k) (map_same (numbers n))) ∙ get-map_numbers (λ (k : ℕ). k) n k h

-- Where a test passes, there is a first such place.

first_snoc : (xs : List ℕ) (n : ℕ) → (d : ℕ) × (slice_get (xs ++ n ∷ []) 0 ≡ Some d)
first_snoc [] n = (n, refl)
first_snoc (x ∷ xs) n = (x, refl)

module _ (q : ℕ → Bool) where
  first_by : (n p : ℕ) (b : Bool) → q n ≡ b → p < suc n → q p ≡ true → (p < n → (d : ℕ) × (slice_get (filter q (numbers n)) 0 ≡ Some d)) → (d : ℕ)
      × (slice_get (filter q (numbers n) ++ (if b then n ∷ [] else [])) 0 ≡ Some d)
  first_by n p true e h t before = first_snoc (filter q (numbers n)) n
  first_by n p false e h t before = elim (cases_eq p n) [
    | inl same ↦ absurd (true≢false (sym t ∙ ap q same ∙ e))
    | inr other ↦ (let d = before (omega (arith, other)) in (d.0, front_get (filter q (numbers n)) [] 0 d.0 d.1))
  ]

  first_kept : (n p : ℕ) → p < n → q p ≡ true → (d : ℕ) × (slice_get (filter q (numbers n)) 0 ≡ Some d)
  first_kept zero p h t = absurd (omega arith)
  first_kept (suc n) p h t =
      let split : filter q (numbers (suc n)) ≡ filter q (numbers n) ++ (if q n then n ∷ [] else []) = (rw add-one at (filter-next q n)) in
      let d = first_by n p (q n) refl h t (λ l. first_kept n p l t) in
      (d.0, ap (λ (xs : List ℕ). slice_get xs 0) split ∙ d.1)

no_places_by : (ds : List ℕ) → length ds ≡ 0 → not (some_places ds) ≡ true
no_places_by [] h = refl
no_places_by (d ∷ ds) h = absurd (omega arith)

config_is : (o : Option Numbered) (s : SymId) → is_symbol_of s (symbol_of o) ≡ true → o ≡ Some (ConfigLine s)
config_is None s h = absurd cc
config_is (Some (ConfigLine t)) s h = ap (λ (u : SymId). Some (ConfigLine u)) (same_is s t h)
config_is (Some _) s h = absurd cc

module _ (ss : List Numbered) where
  shown_first : (d : ℕ) (s : SymId) → slice_get ss d ≡ Some (ConfigLine s) → is_first_definition ss d s ≡ true → shown_at ss d (slice_get ss d) ≡ Some (SymbolShown s)
  shown_first d s at first = ap (shown_at ss d) at ∙ ap (λ (b : Bool). if b then Some (SymbolShown s) else None) first

  -- a symbol that some line defines has an entry
  shown_where : (p : ℕ) (s : SymId) → p < length ss → is_symbol_of s (symbol_at ss p) ≡ true → Contains (entries ss) (SymbolShown s)
  shown_where p s l h =
      let q : ℕ → Bool = λ j. is_symbol_of s (symbol_at ss j) in
      let d = first_kept (λ j. is_symbol_of s (symbol_at ss j)) (length ss) p l h in
      let k = kept_at (λ j. is_symbol_of s (symbol_at ss j)) (length ss) 0 d.0 d.1 in
      let below = k.below in
      let none : length (defined_before ss d.0 s.0) ≡ 0 = length-filter (λ j. is_symbol_of s (symbol_at ss j)) (numbers d.0) ∙ k.count in
      let first : is_first_definition ss d.0 s ≡ true = first-is ss d.0 s (omega arith) ∙ no_places_by (defined_before ss d.0 s.0) none in
      let at : slice_get ss d.0 ≡ Some (ConfigLine s) = config_is (slice_get ss d.0) s k.passes in
      given_at (λ i. shown_at ss i (slice_get ss i)) (indices ss) d.0 d.0 (SymbolShown s) (number_at (length ss) d.0 below) (shown_first d.0 s at first)

-- each defined symbol has an entry
pub shows_each : (names : List (List ℕ)) (ls : List (Located Numbered)) → ShowsEach (facts_with names ls)
shows_each names ls s c =
    let ss = statements ls in
    let l = defined_line ss s c in
    shown_where ss l.place s (place_within ss l.place s l.at) (ap (is_symbol_of s) l.at ∙ eq-eqb s.0 s.0 refl)
  where
    place_within : (ss : List Numbered) (p : ℕ) (s : SymId) → symbol_at ss p ≡ Some s → p < length ss
    place_within [] p s h = absurd cc
    place_within (x ∷ ss) zero s h = omega arith
    place_within (x ∷ ss) (suc p) s h = let l = place_within ss p s h in omega arith
