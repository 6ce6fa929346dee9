-- Names and their numbers, as more names are mentioned.
use Rattle.std.proofs.{Common.{Bool, List, None, Option, Some, [], ap, append-nil, arith, cond, false, inl, inr, length, length-append, map, nat_lt, not, option_map, refl, slice_get, suc, sym, true, ℕ, ◌++◌, ◌+◌, ◌==◌, ◌||◌, ◌∙◌, ◌∷◌, ◌≡◌, ◌≢◌}, lemmas.{Bool.{cases_eq, eq-eqb, ne_eqb}, List.{Folds.list_any-append, length-map, map-append}}}
use Rattle.std.specs.{List.list_any, Option.option_or}
use Rattle.kc_language.specs.{Expressions.{mention, number_of, same_name, symbol}, declared.expressions.SymId.SymId}
use Rattle.kc_expr.specs.{Names.{Extends, IsNumber}, PartsOfSymbols.{added, stands_in}}
use Rattle.kc_language.specs.declared.diagnostics.Cause.TheVariants as cause
use Rattle.kc_expr.proofs.NamesLemmas.{extends_on, same_name-refl}
use Rattle.kc_entries.specs.PartsOfExpansion.{names_match}
use Rattle.kc_read.specs.{Expanded.{AreNumbers, IsNamed}, Progress.{defined_after, defining_cause, ids_match, naming_cause, order_after}}
use Rattle.kc_read.proofs.FileLemmas.{same_name_eq}

pub extends_none : (names : List (List ℕ)) → Extends names names
extends_none names = ([], sym (append-nil names))

-- a known name stands at its number
pub known_at : (names : List (List ℕ)) (w : List ℕ) → list_any (same_name w) names ≡ true → slice_get names (number_of names w) ≡ Some w
known_at [] w h = absurd cc
known_at (x ∷ xs) w h = by (same_name w x) refl h (known_at xs w)
  where
    by : (b : Bool) → same_name w x ≡ b → (b || list_any (same_name w) xs) ≡ true →
        (list_any (same_name w) xs ≡ true → slice_get xs (number_of xs w) ≡ Some w) → slice_get (x ∷ xs) (cond (not b) (1 + number_of xs w) 0) ≡ Some w
    by true e h rest = ap Some (sym (same_name_eq w x e))
    by false e h rest = let one : 1 + number_of xs w ≡ suc (number_of xs w) = omega arith in rw one (rest h)

absent_number : (names : List (List ℕ)) (w : List ℕ) → list_any (same_name w) names ≡ false → number_of names w ≡ length names
absent_number [] w h = refl
absent_number (x ∷ xs) w h = by (same_name w x) h (absent_number xs w)
  where
    by : (b : Bool) → (b || list_any (same_name w) xs) ≡ false → (list_any (same_name w) xs ≡ false → number_of xs w ≡ length xs) → cond (not b) (1 + number_of xs w) 0 ≡ suc (length xs)
    by true h rest = absurd cc
    by false h rest = omega (arith, rest h)

longer_differs : (w : List ℕ) → same_name w (0 ∷ w) ≡ false
longer_differs w = by (same_name w (0 ∷ w)) refl
  where
    by : (b : Bool) → same_name w (0 ∷ w) ≡ b → b ≡ false
    by true e = absurd (omega (arith, ap length (same_name_eq w (0 ∷ w) e)))
    by false e = refl

-- a name that keeps its number is known
pub is_known : (names : List (List ℕ)) (w : List ℕ) (id : SymId) → IsNumber names w id → list_any (same_name w) names ≡ true
is_known names w id h = by (list_any (same_name w) names) refl
  where
    longer : List (List ℕ)
    longer = names ++ (0 ∷ w) ∷ []

    by : (b : Bool) → list_any (same_name w) names ≡ b → b ≡ true
    by true e = refl
    by false e =
        let none : list_any (same_name w) (names ++ (0 ∷ w) ∷ []) ≡ false = list_any-append (same_name w) names ((0 ∷ w) ∷ []) ∙ rw (e, longer_differs w) refl in
        let one : id.0 ≡ length names = ap (λ s. s.0) (h names (extends_none names)) ∙ absent_number names w e in
        let two : id.0 ≡ length (names ++ (0 ∷ w) ∷ []) = ap (λ s. s.0) (h (names ++ (0 ∷ w) ∷ []) ((0 ∷ w) ∷ [], refl)) ∙ absent_number (names ++ (0 ∷ w) ∷ []) w none in
        absurd (omega (arith, length-append names ((0 ∷ w) ∷ []), one, two))

-- two names have one number where they are the same
ids_same : (names : List (List ℕ)) (a b : List ℕ) (i j : SymId) → IsNumber names a i → IsNumber names b j → (i.0 == j.0) ≡ same_name a b
ids_same names a b i j x y = elim (cases_eq i.0 j.0) [
  | inl e ↦
      let s : Some a ≡ Some b = sym (at_number a i x) ∙ ap (slice_get names) e ∙ at_number b j y in
      let t : a ≡ b = cc in
      eq-eqb i.0 j.0 e ∙ sym (ap (same_name a) (sym t) ∙ same_name-refl a)
  | inr ne ↦ ne_eqb i.0 j.0 ne ∙ sym (by (same_name a b) refl ne)
]
  where
    at_number : (w : List ℕ) (id : SymId) → IsNumber names w id → slice_get names id.0 ≡ Some w
    at_number w id h = ap (λ s. slice_get names s.0) (h names (extends_none names)) ∙ known_at names w (is_known names w id h)

    by : (t : Bool) → same_name a b ≡ t → i.0 ≢ j.0 → t ≡ false
    by false e ne = refl
    by true e ne = absurd (ne (ap (λ s. s.0) (x names (extends_none names)) ∙ ap (number_of names) (same_name_eq a b e) ∙ sym (ap (λ s. s.0) (y names (extends_none names)))))

pub match_same : (names : List (List ℕ)) (i j : Option SymId) (m n : Option (List ℕ)) → IsNamed names i m → IsNamed names j n → ids_match i j ≡ names_match m n
match_same names None j None n x y = refl
match_same names None j (Some m) n x y = absurd x
match_same names (Some i) j None n x y = absurd x
match_same names (Some i) None (Some m) None x y = refl
match_same names (Some i) None (Some m) (Some n) x y = absurd y
match_same names (Some i) (Some j) (Some m) None x y = absurd y
match_same names (Some i) (Some j) (Some m) (Some n) x y = ids_same names m n i j x y

pub named_later : (old new : List (List ℕ)) (i : Option SymId) (m : Option (List ℕ)) → Extends old new → IsNamed old i m → IsNamed new i m
named_later old new None None e h = h
named_later old new None (Some m) e h = h
named_later old new (Some i) None e h = h
named_later old new (Some i) (Some m) e h = λ later x. h later (extends_on old new later e x)

pub named_or : (names : List (List ℕ)) (i j : Option SymId) (m n : Option (List ℕ)) → IsNamed names i m → IsNamed names j n → IsNamed names (option_or i j) (option_or m n)
named_or names None j None n x y = y
named_or names None j (Some m) n x y = absurd x
named_or names (Some i) j None n x y = absurd x
named_or names (Some i) j (Some m) n x y = x

pub named_if : (names : List (List ℕ)) (b : Bool) (i : Option SymId) (m : Option (List ℕ)) → IsNamed names i m → IsNamed names (cond b i None) (cond b m None)
named_if names true i m x = x
named_if names false i m x = tt

pub is_named : (names : List (List ℕ)) (i : Option SymId) (m : Option (List ℕ)) →
    ((later : List (List ℕ)) → Extends names later → i ≡ option_map (λ n. symbol (number_of later n)) m) → IsNamed names i m
is_named names None None h = tt
is_named names None (Some m) h = absurd (let e = h names (extends_none names) in cc)
is_named names (Some i) None h = absurd (let e = h names (extends_none names) in cc)
is_named names (Some i) (Some m) h = λ later x. let e = h later x in cc

-- The numbers of names, one after another, and those of one more.
same_place : (names : List (List ℕ)) (ids : List SymId) (ns : List (List ℕ)) (w : List ℕ) (id : SymId) → AreNumbers names ids ns → IsNumber names w id → stands_in ids id ≡ list_any (same_name w) ns
same_place names [] [] w id h k = refl
same_place names [] (n ∷ ns) w id h k = absurd (let e = h names (extends_none names) in cc)
same_place names (s ∷ ids) [] w id h k = absurd (let e = h names (extends_none names) in cc)
same_place names (s ∷ ids) (n ∷ ns) w id h k =
    let one : (id.0 == s.0) ≡ same_name w n = ids_same names w n id s k (λ later x. let e = h later x in cc) in
    let rest : stands_in ids id ≡ list_any (same_name w) ns = same_place names ids ns w id (λ later x. let e = h later x in cc) k in
    λ j. one j || rest j

pub numbers_placed : (known names : List (List ℕ)) (ids : List SymId) (ns : List (List ℕ)) (w : List ℕ) (id : SymId) → Extends known names →
    AreNumbers known ids ns → IsNumber names w id → AreNumbers names (added ids id) (mention ns w)
numbers_placed known names ids ns w id e h k later x =
    ap (λ b. cond b ids (ids ++ id ∷ [])) (same_place names ids ns w id (λ l y. h l (extends_on known names l e y)) k)
    ∙ by (list_any (same_name w) ns)
  where
    base : ids ≡ map (λ n. symbol (number_of later n)) ns
    base = h later (extends_on known names later e x)

    by : (b : Bool) → cond b ids (ids ++ id ∷ []) ≡ map (λ n. symbol (number_of later n)) (cond b ns (ns ++ w ∷ []))
    by true = base
    by false =
        let here : id ≡ symbol (number_of later w) = k later x in
        (λ j. base j ++ here j ∷ []) ∙ sym (map-append (λ n. symbol (number_of later n)) ns (w ∷ []))

pub numbers_after : (known names : List (List ℕ)) (ids : List SymId) (ns : List (List ℕ)) (o : Option SymId) (m : Option (List ℕ)) → Extends known names →
    AreNumbers known ids ns → IsNamed names o m → AreNumbers names (order_after ids o) (defined_after ns m)
numbers_after known names ids ns None None e h k = λ later x. h later (extends_on known names later e x)
numbers_after known names ids ns None (Some n) e h k = absurd k
numbers_after known names ids ns (Some id) None e h k = absurd k
numbers_after known names ids ns (Some id) (Some n) e h k = numbers_placed known names ids ns n id e h k

as_many : (names : List (List ℕ)) (ids : List SymId) (ns : List (List ℕ)) → AreNumbers names ids ns → length ids ≡ length ns
as_many names ids ns h = ap length (h names (extends_none names)) ∙ length-map ns (λ n. symbol (number_of names n))

pub defining_same : (known names : List (List ℕ)) (ids : List SymId) (ns : List (List ℕ)) (o : Option SymId) (m : Option (List ℕ)) → Extends known names →
    AreNumbers known ids ns → IsNamed names o m → defining_cause ids o ≡ naming_cause ns m
defining_same known names ids ns None None e h k = refl
defining_same known names ids ns None (Some n) e h k = absurd k
defining_same known names ids ns (Some id) None e h k = absurd k
defining_same known names ids ns (Some id) (Some n) e h k =
    ap (λ (l : ℕ). cond (nat_lt 65535 l) (Some cause.TooManySymbols) None) (as_many names (added ids id) (mention ns n) (numbers_placed known names ids ns n id e h k))
