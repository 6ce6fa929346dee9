-- The enclosing blocks of a statement, from one statement to the next.
use Rattle.std.proofs.Common.{Bool, List, Some, [], ap, append_assoc, arith, false, filter, if◌then◌else◌, inl, inr, length, refl, suc, sym, take, true, zero, ℕ, ◌&&◌, ◌++◌, ◌+◌, ◌-◌, ◌<◌, ◌∙◌, ◌∷◌, ◌≡◌, ◌≤◌}
use Rattle.std.specs.{List.slice_get, Option.is_some, Prelude.◌⊎◌}
use Rattle.kc_language.specs.{Expansion.{Bracket, Closes, NoBracket, Opens, bracket, bracket_at, enclosing, last_of, numbers, open_block_indices, opened, stays_open}, Statements.Numbered}
use Rattle.kc_entries.specs.PartsOfExpansion.{is_open, stays_after}

-- Closers that close what was opened before a list.
abbrev below : ℕ → ℕ → Bool
below zero d = true
below (suc u) zero = false
below (suc u) (suc d) = below u d

abbrev pred : ℕ → ℕ
pred zero = zero
pred (suc n) = n

abbrev after_bracket : Bracket → ℕ → ℕ
after_bracket (Opens b) n = pred n
after_bracket Closes n = suc n
after_bracket NoBracket n = n

abbrev unmatched : List Numbered → ℕ
unmatched [] = zero
unmatched (s ∷ ss) = after_bracket (bracket s) (unmatched ss)

below-pred : (u d : ℕ) → below u (suc d) ≡ below (pred u) d
below-pred zero d = refl
below-pred (suc u) d = refl

stays_bracket : (d : ℕ) (b : Bracket) (ss : List Numbered) → ((e : ℕ) → stays_open e ss ≡ below (unmatched ss) e) →
    stays_after b d ss ≡ below (after_bracket b (unmatched ss)) d
stays_bracket zero (Opens b) ss ih = ih 1 ∙ below-pred (unmatched ss) 0
stays_bracket (suc d) (Opens b) ss ih = ih (suc (suc d)) ∙ below-pred (unmatched ss) (suc d)
stays_bracket zero Closes ss ih = refl
stays_bracket (suc d) Closes ss ih = ih d
stays_bracket zero NoBracket ss ih = ih 0
stays_bracket (suc d) NoBracket ss ih = ih (suc d)

stays_open-unmatched : (d : ℕ) (ss : List Numbered) → stays_open d ss ≡ below (unmatched ss) d
stays_open-unmatched d [] = refl
stays_open-unmatched d (s ∷ ss) = stays_bracket d (bracket s) ss (λ e. stays_open-unmatched e ss)

-- The openers that stay open, the first of the list having number p.
abbrev opens : Numbered → Bool
opens s = is_some (opened (bracket s))

abbrev open_from : ℕ → List Numbered → List ℕ
open_from p [] = []
open_from p (s ∷ ss) = if opens s && below (unmatched ss) 0 then p ∷ open_from (suc p) ss else open_from (suc p) ss

abbrev pub numbers_from : ℕ → ℕ → List ℕ
numbers_from p zero = []
numbers_from p (suc n) = p ∷ numbers_from (suc p) n

numbers_from-suc : (p n : ℕ) → numbers_from p n ++ (p + n) ∷ [] ≡ numbers_from p (suc n)
numbers_from-suc p zero = let e : p + 0 ≡ p = omega arith in rw e refl
numbers_from-suc p (suc n) =
    let e : p + suc n ≡ suc p + n = omega arith in
    rw e (ap (λ l. p ∷ l) (numbers_from-suc (suc p) n))

pub numbers-from : (n : ℕ) → numbers n ≡ numbers_from 0 n
numbers-from zero = refl
numbers-from (suc n) =
    let e : 0 + n ≡ n = omega arith in
    ap (λ l. l ++ n ∷ []) (numbers-from n) ∙ (rw e at (numbers_from-suc 0 n))

filter-open : (f : ℕ → Bool) (p : ℕ) (ss : List Numbered) → ((k : ℕ) → f (p + k) ≡ is_open ss k) → filter f (numbers_from p (length ss)) ≡ open_from p ss
filter-open f p [] h = refl
filter-open f p (s ∷ ss) h =
    let first : f p ≡ opens s && below (unmatched ss) 0 = (let e : p + 0 ≡ p = omega arith in (rw e at (h 0))) ∙ ap (λ b. opens s && b) (stays_open-unmatched 0 ss) in
    let rest : (k : ℕ) → f (suc p + k) ≡ is_open ss k = λ k. (let e : p + suc k ≡ suc p + k = omega arith in (rw e at (h (suc k)))) in
    rw (first, filter-open f (suc p) ss rest) refl

open_block_indices-from : (ss : List Numbered) → open_block_indices ss ≡ open_from 0 ss
open_block_indices-from ss =
    ap (filter (is_open ss)) (numbers-from (length ss)) ∙ filter-open (is_open ss) 0 ss (λ k. let e : 0 + k ≡ k = omega arith in rw e refl)

-- One statement more.
abbrev pub front : List ℕ → List ℕ
front [] = []
front (x ∷ []) = []
front (x ∷ y ∷ xs) = x ∷ front (y ∷ xs)

abbrev is_nil : List ℕ → Bool
is_nil [] = true
is_nil (x ∷ xs) = false

unmatched-no : (ss : List Numbered) (s : Numbered) → bracket s ≡ NoBracket → unmatched (ss ++ s ∷ []) ≡ unmatched ss
unmatched-no [] s e = rw e refl
unmatched-no (x ∷ ss) s e = ap (after_bracket (bracket x)) (unmatched-no ss s e)

unmatched-opens : (ss : List Numbered) (s : Numbered) (b : _) → bracket s ≡ Opens b → unmatched (ss ++ s ∷ []) ≡ unmatched ss
unmatched-opens [] s b e = rw e refl
unmatched-opens (x ∷ ss) s b e = ap (after_bracket (bracket x)) (unmatched-opens ss s b e)

closing : (b : Bracket) (p u u' : ℕ) (o : List ℕ) → u' ≡ (if is_nil o then suc u else u) →
    after_bracket b u' ≡ (if is_nil (if is_some (opened b) && below u 0 then p ∷ o else o) then suc (after_bracket b u) else after_bracket b u)
closing (Opens b) p zero u' [] h = rw h refl
closing (Opens b) p zero u' (q ∷ o) h = rw h refl
closing (Opens b) p (suc u) u' [] h = rw h refl
closing (Opens b) p (suc u) u' (q ∷ o) h = rw h refl
closing Closes p u u' [] h = rw h refl
closing Closes p u u' (q ∷ o) h = rw h refl
closing NoBracket p u u' [] h = rw h refl
closing NoBracket p u u' (q ∷ o) h = rw h refl

unmatched-closes : (p : ℕ) (ss : List Numbered) (s : Numbered) → bracket s ≡ Closes → unmatched (ss ++ s ∷ []) ≡ (if is_nil (open_from p ss) then suc (unmatched ss) else unmatched ss)
unmatched-closes p [] s e = rw e refl
unmatched-closes p (x ∷ ss) s e = closing (bracket x) p (unmatched ss) (unmatched (ss ++ s ∷ [])) (open_from (suc p) ss) (unmatched-closes (suc p) ss s e)

open_from-no : (p : ℕ) (ss : List Numbered) (s : Numbered) → bracket s ≡ NoBracket → open_from p (ss ++ s ∷ []) ≡ open_from p ss
open_from-no p [] s e = rw e refl
open_from-no p (x ∷ ss) s e = rw (unmatched-no ss s e, open_from-no (suc p) ss s e) refl

pushed : (b : Bool) (p n m : ℕ) (o : List ℕ) → n ≡ m → (if b then p ∷ (o ++ n ∷ []) else o ++ n ∷ []) ≡ (if b then p ∷ o else o) ++ m ∷ []
pushed true p n m o h = rw h refl
pushed false p n m o h = rw h refl

open_from-opens : (p : ℕ) (ss : List Numbered) (s : Numbered) (b : _) → bracket s ≡ Opens b → open_from p (ss ++ s ∷ []) ≡ open_from p ss ++ (p + length ss) ∷ []
open_from-opens p [] s b e = let h : p + 0 ≡ p = omega arith in rw (e, h) refl
open_from-opens p (x ∷ ss) s b e =
    rw (unmatched-opens ss s b e, open_from-opens (suc p) ss s b e) (pushed (opens x && below (unmatched ss) 0) p (suc p + length ss) (p + suc (length ss)) (open_from (suc p) ss) (omega arith))

dropped : (c : Bool) (p u u' : ℕ) (o : List ℕ) → u' ≡ (if is_nil o then suc u else u) → (if c && below u' 0 then p ∷ front o else front o) ≡ front (if c && below u 0 then p ∷ o else o)
dropped true p zero u' [] h = rw h refl
dropped true p zero u' (q ∷ o) h = rw h refl
dropped true p (suc u) u' [] h = rw h refl
dropped true p (suc u) u' (q ∷ o) h = rw h refl
dropped false p u u' o h = refl

open_from-closes : (p : ℕ) (ss : List Numbered) (s : Numbered) → bracket s ≡ Closes → open_from p (ss ++ s ∷ []) ≡ front (open_from p ss)
open_from-closes p [] s e = rw e refl
open_from-closes p (x ∷ ss) s e =
    rw (open_from-closes (suc p) ss s e) (dropped (opens x) p (unmatched ss) (unmatched (ss ++ s ∷ [])) (open_from (suc p) ss) (unmatched-closes (suc p) ss s e))

-- The same for the places that enclose a statement.
pub take-next : (ss : List Numbered) (i : ℕ) (s : Numbered) → slice_get ss i ≡ Some s → take (suc i) ss ≡ take i ss ++ s ∷ []
take-next [] i s h = cc
take-next (x ∷ ss) zero s h = cc
take-next (x ∷ ss) (suc i) s h = ap (λ l. x ∷ l) (take-next ss i s h)

pub length-take_at : (ss : List Numbered) (i : ℕ) (s : Numbered) → slice_get ss i ≡ Some s → length (take i ss) ≡ i
length-take_at [] i s h = cc
length-take_at (x ∷ ss) zero s h = refl
length-take_at (x ∷ ss) (suc i) s h = ap suc (length-take_at ss i s h)

pub enclosing-no : (ss : List Numbered) (i : ℕ) (s : Numbered) → slice_get ss i ≡ Some s → bracket s ≡ NoBracket → enclosing ss (suc i) ≡ enclosing ss i
enclosing-no ss i s h e =
    open_block_indices-from (take (suc i) ss) ∙ ap (open_from 0) (take-next ss i s h) ∙ open_from-no 0 (take i ss) s e ∙ sym (open_block_indices-from (take i ss))

pub enclosing-opens : (ss : List Numbered) (i : ℕ) (s : Numbered) (b : _) → slice_get ss i ≡ Some s → bracket s ≡ Opens b → enclosing ss (suc i) ≡ enclosing ss i ++ i ∷ []
enclosing-opens ss i s b h e =
    let n : 0 + length (take i ss) ≡ i = omega (arith, length-take_at ss i s h) in
    open_block_indices-from (take (suc i) ss) ∙ ap (open_from 0) (take-next ss i s h) ∙ open_from-opens 0 (take i ss) s b e ∙ (rw (n, open_block_indices-from (take i ss)) refl)

pub enclosing-closes : (ss : List Numbered) (i : ℕ) (s : Numbered) → slice_get ss i ≡ Some s → bracket s ≡ Closes → enclosing ss (suc i) ≡ front (enclosing ss i)
enclosing-closes ss i s h e =
    open_block_indices-from (take (suc i) ss) ∙ ap (open_from 0) (take-next ss i s h) ∙ open_from-closes 0 (take i ss) s e ∙ ap front (sym (open_block_indices-from (take i ss)))

-- Each place that encloses a statement has before it, among those that do, the places that enclose itself.
pub record IsNested (ss : List Numbered) (i : ℕ) (ys : List ℕ) (k : ℕ) : Type 0 where
  pub before : k < i
  pub outside : ys ≡ enclosing ss k
  pub opener : is_some (opened (bracket_at ss k)) ≡ true

abbrev Split : List ℕ → ℕ → List ℕ → ℕ → Type 0
Split xs x ys k = ((ys ≡ xs) × (k ≡ x)) ⊎ ((ws : List ℕ) × (xs ≡ ys ++ k ∷ ws))

split_snoc : (xs : List ℕ) (x : ℕ) (ys : List ℕ) (k : ℕ) (zs : List ℕ) → xs ++ x ∷ [] ≡ ys ++ k ∷ zs → Split xs x ys k
split_snoc [] x [] k zs h = inl (refl, cc)
split_snoc [] x (y ∷ []) k zs h = cc
split_snoc [] x (y ∷ z ∷ ys) k zs h = cc
split_snoc (a ∷ xs) x [] k zs h = inr (xs, cc)
split_snoc (a ∷ xs) x (y ∷ ys) k zs h =
    let same : a ≡ y = cc in
    elim (split_snoc xs x ys k zs cc) as (λ _. Split (a ∷ xs) x (y ∷ ys) k) [
      | inl e ↦ inl (rw (e.0, same) refl, e.1)
      | inr w ↦ inr (w.0, rw (w.1, same) refl)
    ]

abbrev rest_after : List ℕ → List ℕ
rest_after [] = []
rest_after (x ∷ []) = x ∷ []
rest_after (x ∷ y ∷ xs) = rest_after (y ∷ xs)

front-rest : (xs : List ℕ) → xs ≡ front xs ++ rest_after xs
front-rest [] = refl
front-rest (x ∷ []) = refl
front-rest (x ∷ y ∷ xs) = ap (λ l. x ∷ l) (front-rest (y ∷ xs))

IsNested-later : (ss : List Numbered) (i : ℕ) (ys : List ℕ) (k : ℕ) → IsNested ss i ys k → IsNested ss (suc i) ys k
IsNested-later ss i ys k n = record { before = (let b = n.before in omega arith); outside = n.outside; opener = n.opener }

abbrev Nested : List Numbered → ℕ → Type 0
Nested ss i = (ys : List ℕ) (k : ℕ) (zs : List ℕ) → enclosing ss i ≡ ys ++ k ∷ zs → IsNested ss i ys k

nested_next : (ss : List Numbered) (i : ℕ) (s : Numbered) (b : Bracket) → slice_get ss i ≡ Some s → bracket s ≡ b → Nested ss i → Nested ss (suc i)
nested_next ss i s (Opens b) h e ih = λ ys k zs p.
    elim (split_snoc (enclosing ss i) i ys k zs (sym (enclosing-opens ss i s b h e) ∙ p)) as (λ _. IsNested ss (suc i) ys k) [
      | inl q ↦ record { before = (let w = q.1 in omega arith); outside = (rw (q.1) (q.0)); opener = (rw (bracket_at, q.1, h, e) refl) }
      | inr w ↦ IsNested-later ss i ys k (ih ys k w.0 w.1)
    ]
nested_next ss i s Closes h e ih = λ ys k zs p.
    IsNested-later ss i ys k (ih ys k (zs ++ rest_after (enclosing ss i))
    (front-rest (enclosing ss i) ∙ ap (λ l. l ++ rest_after (enclosing ss i)) (sym (enclosing-closes ss i s h e) ∙ p)
    ∙ append_assoc ys (k ∷ zs) (rest_after (enclosing ss i))))
nested_next ss i s NoBracket h e ih = λ ys k zs p.
    IsNested-later ss i ys k (ih ys k zs (sym (enclosing-no ss i s h e) ∙ p))

no_split : (ys : List ℕ) (k : ℕ) (zs : List ℕ) → [] ≡ ys ++ k ∷ zs → ⊥
no_split [] k zs h = cc
no_split (y ∷ ys) k zs h = cc

-- what there is at a place, for a place within the list
pub there : (ss : List Numbered) (i : ℕ) → i < length ss → (s : Numbered) × (slice_get ss i ≡ Some s)
there [] i h = absurd (omega arith)
there (x ∷ ss) zero h = (x, refl)
there (x ∷ ss) (suc i) h = there ss i (omega arith)

pub nested : (ss : List Numbered) (i : ℕ) → i ≤ length ss → Nested ss i
nested ss zero h = λ ys k zs p. absurd (no_split ys k zs p)
nested ss (suc i) h =
    let s = there ss i (omega arith) in
    nested_next ss i s.0 (bracket s.0) s.1 refl (nested ss i (omega arith))

last-front : (xs : List ℕ) (k : ℕ) → last_of xs ≡ Some k → xs ≡ front xs ++ k ∷ []
last-front [] k h = cc
last-front (x ∷ []) k h = cc
last-front (x ∷ y ∷ xs) k h = ap (λ l. x ∷ l) (last-front (y ∷ xs) k h)

pub last-snoc : (xs : List ℕ) (k : ℕ) → last_of (xs ++ k ∷ []) ≡ Some k
last-snoc [] k = refl
last-snoc (x ∷ []) k = refl
last-snoc (x ∷ y ∷ xs) k = last-snoc (y ∷ xs) k

-- The innermost opener's places are all but itself.
pub last_is_nested : (ss : List Numbered) (i k : ℕ) → i ≤ length ss → last_of (enclosing ss i) ≡ Some k → IsNested ss i (front (enclosing ss i)) k
last_is_nested ss i k h e = nested ss i h (front (enclosing ss i)) k [] (last-front (enclosing ss i) k e)

pub enclosing-last : (ss : List Numbered) (i k : ℕ) → i ≤ length ss → last_of (enclosing ss i) ≡ Some k → enclosing ss i ≡ enclosing ss k ++ k ∷ []
enclosing-last ss i k h e =
    last-front (enclosing ss i) k e ∙ ap (λ l. l ++ k ∷ []) ((last_is_nested ss i k h e).outside)
