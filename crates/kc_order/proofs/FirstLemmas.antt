-- The first of a sequence that passes a test: it, its place, and its place among several symbols.
use Rattle.std.proofs.{Common.{All, Bool, List, None, Option, Some, [], ap, append_assoc, ap₂, arith, cond, eqb, false, get_or, inl, inr, length, ltb, min, not, refl, sym, take, true, ℕ, ◌&&◌, ◌++◌, ◌+◌, ◌<◌, ◌||◌, ◌∙◌, ◌∷◌, ◌≡◌, ◌≤◌}, Math.{Bool.{and-or_distrib_left, and-true}, ListN.set}, lemmas.{Bool.{Decides.nat_tests, and_right, cases_Bool, cases_eq, cases_lt, eq-eqb, false_from_ne_true, le-ltb, lt-ltb, ltb-true, ne_eqb}, Grind.get_or-set_at, List.{Elements.{All-tail, Contains-append_right}, Folds.{find_at, list_any-append, list_any-from_Any, position_or_len_push}, Sums.prefix_len-le-length, append-nil, get_or-set_other, length-set, length-take-le, length_push, take_more}, Option.{cond_some, none-some, same_Some, slice_get-get_or, slice_get_past}}}
use Rattle.std.specs.{List.{Contains, find, flat_map, fold, list_any, position, position_or_len, slice_get}, Option.option_or}
use Rattle.kc_order.specs.{FirstUnordered.{ArePlaces, is_unordered_at, lesser_of, place_among}, declared.search.NodeState.NodeState}

-- a number, if it is below a bound
abbrev below : ℕ → ℕ → Option ℕ
below m n = cond (ltb m n) (Some m) None

below_is : (m n : ℕ) → m < n → below m n ≡ Some m
below_is m n l = ap (λ b. cond b (Some m) None) (lt-ltb m n l)

below_none : (m n : ℕ) → n ≤ m → below m n ≡ None
below_none m n l = ap (λ b. cond b (Some m) None) (le-ltb m n l)

-- what stands at the place is found
pub find_by_place : (p : ℕ → Bool) (xs : List ℕ) (k : ℕ) → position p xs ≡ Some k → (k < length xs) × (find p xs ≡ Some (get_or xs k 0))
find_by_place p xs k e =
    let at = cond_some (ltb (position_or_len p xs) (length xs)) (position_or_len p xs) k e in
    let l : position_or_len p xs < length xs = ltb-true (position_or_len p xs) (length xs) at.0 in
    (omega (arith, at.1), find_at p xs ∙ slice_get-get_or xs (position_or_len p xs) 0 l ∙ ap (λ i. Some (get_or xs i 0)) at.1)

pub find_without_place : (p : ℕ → Bool) (xs : List ℕ) → position p xs ≡ None → find p xs ≡ None
find_without_place p xs e =
    elim (cases_lt (position_or_len p xs) (length xs)) [
      | inl l ↦ let is = sym (below_is (position_or_len p xs) (length xs) l) ∙ e in cc
      | inr past ↦ find_at p xs ∙ slice_get_past xs (position_or_len p xs) past
    ]

-- what is found is an element that passes
pub found : (p : ℕ → Bool) (xs : List ℕ) (t : ℕ) → find p xs ≡ Some t → Contains xs t × (p t ≡ true)
found p [] t e = cc
found p (x ∷ xs) t e =
    elim (cases_Bool (p x)) [
      | inl passes ↦
          let same : x ≡ t = same_Some x t (rw passes at e) in
          ((0, omega arith, same), ap p (sym same) ∙ passes)
      | inr fails ↦
          let rest = found p xs t (rw fails at e) in
          (Contains-append_right (x ∷ []) xs t rest.0, rest.1)
    ]

-- where an element passes, some element is found
finds_any : (p : ℕ → Bool) (xs : List ℕ) → list_any p xs ≡ true → (t : ℕ) × (find p xs ≡ Some t)
finds_any p [] e = cc
finds_any p (x ∷ xs) e =
    elim (cases_Bool (p x)) [
      | inl passes ↦ (x, rw passes refl)
      | inr fails ↦ let rest = finds_any p xs (rw fails at e) in (rest.0, rw fails rest.1)
    ]

pub finds : (p : ℕ → Bool) (xs : List ℕ) (s : ℕ) → Contains xs s → p s ≡ true → (t : ℕ) × (find p xs ≡ Some t)
finds p xs s c e = finds_any p xs (list_any-from_Any p xs (c.0, s, c.1, c.2, e))

pub all_fail : (p : ℕ → Bool) (xs : List ℕ) (s : ℕ) → find p xs ≡ None → Contains xs s → p s ≡ false
all_fail p xs s none c =
    false_from_ne_true (p s) (λ passes. let some = finds p xs s c passes in none-some some.0 (sym none ∙ some.1))

-- tests that agree on each element find the same
same_len : (p q : ℕ → Bool) (xs : List ℕ) → All (λ x. p x ≡ q x) xs → position_or_len p xs ≡ position_or_len q xs
same_len p q [] h = refl
same_len p q (x ∷ xs) h =
    ap (λ b. cond (not b) (1 + position_or_len p xs) 0) (h 0 x (omega arith))
    ∙ ap (λ m. cond (not (q x)) (1 + m) 0) (same_len p q xs (All-tail (λ x. p x ≡ q x) x xs h))

pub same_found : (p q : ℕ → Bool) (xs : List ℕ) → All (λ x. p x ≡ q x) xs → find p xs ≡ find q xs
same_found p q xs h = find_at p xs ∙ ap (slice_get xs) (same_len p q xs h) ∙ sym (find_at q xs)

pub same_place : (p q : ℕ → Bool) (xs : List ℕ) → All (λ x. p x ≡ q x) xs → position p xs ≡ position q xs
same_place p q xs h = ap (λ m. below m (length xs)) (same_len p q xs h)

-- the place of the first that passes one of two tests
lesser_below : (a b n : ℕ) → lesser_of (below a n) (below b n) ≡ below (min a b) n
lesser_below a b n = grind (arith, nat_tests)

either_len : (p q : ℕ → Bool) (xs : List ℕ) → position_or_len (λ x. p x || q x) xs ≡ min (position_or_len p xs) (position_or_len q xs)
either_len p q [] = refl
either_len p q (x ∷ xs) =
    let rest = either_len p q xs in
    elim (cases_Bool (p x)) [
      | inl t ↦ rw t (omega arith)
      | inr f ↦ elim (cases_Bool (q x)) [
        | inl t ↦ rw (f, t) (omega arith)
        | inr g ↦ rw (f, g) (omega (arith, rest))
      ]
    ]

either_place : (p q : ℕ → Bool) (xs : List ℕ) → position (λ x. p x || q x) xs ≡ lesser_of (position p xs) (position q xs)
either_place p q xs = ap (λ m. below m (length xs)) (either_len p q xs) ∙ sym (lesser_below (position_or_len p xs) (position_or_len q xs) (length xs))

none_len : (p : ℕ → Bool) → ((x : ℕ) → p x ≡ false) → (xs : List ℕ) → position_or_len p xs ≡ length xs
none_len p none [] = refl
none_len p none (x ∷ xs) = rw (none x) (omega (arith, none_len p none xs))

module _ (test : ℕ → Bool) (sequence : List ℕ) where
  among_none : place_among test sequence [] ≡ None
  among_none = below_none _ (length sequence) (omega (arith, none_len (λ u. test u && false) (λ u. and_right (test u) false refl) sequence))

  among_append : (xs ys : List ℕ) → place_among test sequence (xs ++ ys) ≡ lesser_of (place_among test sequence xs) (place_among test sequence ys)
  among_append xs ys =
      same_place (λ u. test u && list_any (eqb u) (xs ++ ys)) (λ u. (test u && list_any (eqb u) xs) || (test u && list_any (eqb u) ys)) sequence (λ k d l.
      let u = get_or sequence k d in
      ap (λ b. test u && b) (list_any-append (eqb u) xs ys) ∙ and-or_distrib_left (test u) (list_any (eqb u) xs) (list_any (eqb u) ys))
      ∙ either_place (λ u. test u && list_any (eqb u) xs) (λ u. test u && list_any (eqb u) ys) sequence

  -- the place of the first among what a row stands for
  module _ (f : ℕ → Option ℕ) (g : ℕ → List ℕ) where
    row_behind : (before row : List ℕ) → All (λ t. f t ≡ place_among test sequence (g t)) row →
        fold (λ first t. lesser_of first (f t)) (place_among test sequence before) row ≡ place_among test sequence (before ++ flat_map g row)
    row_behind before [] h = ap (place_among test sequence) (sym (append-nil before))
    row_behind before (t ∷ row) h =
        ap (λ o. fold (λ first t. lesser_of first (f t)) o row)
        (ap (lesser_of (place_among test sequence before)) (h 0 t (omega arith)) ∙ sym (among_append before (g t)))
        ∙ row_behind (before ++ g t) row (All-tail (λ t. f t ≡ place_among test sequence (g t)) t row h)
        ∙ ap (place_among test sequence) (append_assoc before (g t) (flat_map g row))

    pub row_place : (row : List ℕ) → All (λ t. f t ≡ place_among test sequence (g t)) row →
        fold (λ first t. lesser_of first (f t)) None row ≡ place_among test sequence (flat_map g row)
    row_place row h = ap (λ o. fold (λ first t. lesser_of first (f t)) o row) (sym among_none) ∙ row_behind [] row h

-- the place in a list with one more element
push_below : (a b n m : ℕ) (t : Bool) → a ≡ cond (eqb b n) (n + cond t 0 1) b → m ≡ n + 1 → b ≤ n →
    below a m ≡ option_or (below b n) (cond t (Some n) None)
push_below a b n m t e f l = grind (arith, nat_tests)

position_push : (p : ℕ → Bool) (xs : List ℕ) (x : ℕ) → position p (xs ++ x ∷ []) ≡ option_or (position p xs) (cond (p x) (Some (length xs)) None)
position_push p xs x = push_below _ _ (length xs) _ (p x) (position_or_len_push p xs x) (length_push xs x) (prefix_len-le-length (λ y. not (p y)) xs)

option_or_none : (o : Option ℕ) → option_or o None ≡ o
option_or_none None = refl
option_or_none (Some k) = refl

-- one more symbol of the sequence, at the place where it stands
pub places_more : (sequence : List ℕ) (states : List NodeState) (places : List (Option ℕ)) (i s : ℕ) → i < length sequence → s ≡ get_or sequence i 0 →
    s < length states → ArePlaces (take i sequence) states places →
    ArePlaces (take (i + 1) sequence) states (set places s (option_or (get_or places s None) (cond (is_unordered_at states s) (Some i) None)))
places_more sequence states places i s l is b are = record {
  count = length-set places s _ ∙ are.count;
  each = λ t c.
      let test = is_unordered_at states in
      let before = take i sequence in
      let passes = λ (u : ℕ). test u && list_any (eqb u) (t ∷ []) in
      let more : place_among test (take (i + 1) sequence) (t ∷ []) ≡ option_or (place_among test before (t ∷ [])) (cond (passes s) (Some i) None) =
      ap (position passes) (take_more sequence i 0 l) ∙ position_push passes before (get_or sequence i 0)
      ∙ ap (λ x. option_or (position passes before) (cond (passes x) (Some (length before)) None)) (sym is)
      ∙ ap (λ n. option_or (position passes before) (cond (passes s) (Some n) None)) (length-take-le i sequence (omega arith)) in
      elim (cases_eq t s) [
        | inl same ↦
            let here : test s && list_any (eqb s) (t ∷ []) ≡ test s = ap (λ b. test s && (b || false)) (eq-eqb s t (sym same)) ∙ and-true (test s) in
            get_or-set_at places s t _ None same (omega (arith, b, are.count))
            ∙ ap₂ option_or (ap (λ k. get_or places k None) (sym same) ∙ are.each t c) (ap (λ b. cond b (Some i) None) (sym here)) ∙ sym more
        | inr other ↦
            let past : test s && list_any (eqb s) (t ∷ []) ≡ false =
            ap (λ b. test s && (b || false)) (ne_eqb s t (λ e. other (sym e))) ∙ and_right (test s) false refl in
            get_or-set_other places s t _ None other ∙ are.each t c
            ∙ sym (more ∙ ap (λ b. option_or (place_among test before (t ∷ [])) (cond b (Some i) None)) past ∙ option_or_none (place_among test before (t ∷ [])))
      ];
}
