-- What was found, with one answer more.
use Rattle.std.proofs.{Common.{All, Bool, List, None, Option, [], ap, arith, cond, false, map, refl, subst, suc, sym, take, true, zero, ℕ, ◌++◌, ◌+◌, ◌||◌, ◌∙◌, ◌∷◌, ◌≡◌, ◌≤◌}, lemmas.{Bool.{both_ways, or_parts}, List.{Elements.{All-head, All-tail}, map-append}}}
use Rattle.kc_language.specs.Expressions.{same_name}
use Rattle.kc_expr.proofs.NamesLemmas.{same_name-refl}
use Rattle.kc_read.proofs.FileLemmas.{same_name_eq}
use Rattle.kc_load.specs.{Folder.{Answer, files_found, line_total}, Steps.was_requested}

abbrev pub names_of : List Answer → List (List ℕ)
names_of asked = map (λ (a : Answer). a.name) asked

pub names_push : (asked : List Answer) (a : Answer) → names_of (asked ++ a ∷ []) ≡ names_of asked ++ a.name ∷ []
names_push asked a = map-append (λ (b : Answer). b.name) asked (a ∷ [])

-- a name that was not asked for has no file
pub found_absent : (asked : List Answer) (x : List ℕ) → was_requested (names_of asked) x ≡ false → files_found asked x ≡ None
found_absent [] x h = refl
found_absent (a ∷ more) x h =
    let p = or_parts (same_name x a.name) (was_requested (names_of more) x) h in
    ap (λ b. cond b a.bytes (files_found more x)) p.0 ∙ found_absent more x p.1

-- x is y, and z is not: so x is not z
apart : (x y z : List ℕ) → same_name x y ≡ true → same_name z y ≡ false → same_name x z ≡ false
apart x y z same other = by (same_name x z) refl
  where
    by : (b : Bool) → same_name x z ≡ b → b ≡ false
    by true e = absurd (both_ways (same_name z y) other (ap (λ w. same_name w y) (sym (same_name_eq x z e)) ∙ same))
    by false e = refl

-- one answer more, to a new name
pub found_push : (asked : List Answer) (a : Answer) → was_requested (names_of asked) a.name ≡ false → (x : List ℕ) → files_found (asked ++ a ∷ []) x ≡ cond (same_name x a.name) a.bytes (files_found asked x)
found_push [] a new x = refl
found_push (b ∷ more) a new x =
    let differ = or_parts (same_name a.name b.name) (was_requested (names_of more) a.name) new in
    by (same_name x b.name) refl differ.0 (found_push more a differ.1 x)
  where
    by : (t : Bool) → same_name x b.name ≡ t → same_name a.name b.name ≡ false → files_found (more ++ a ∷ []) x ≡ cond (same_name x a.name) a.bytes (files_found more x) → cond t b.bytes (files_found (more ++ a ∷ []) x) ≡ cond (same_name x a.name) a.bytes (cond t b.bytes (files_found more x))
    by true e differ rest = sym (ap (λ s. cond s a.bytes b.bytes) (apart x b.name a.name e differ))
    by false e differ rest = rest

pub found_itself : (asked : List Answer) (a : Answer) → was_requested (names_of asked) a.name ≡ false → files_found (asked ++ a ∷ []) a.name ≡ a.bytes
found_itself asked a new = found_push asked a new a.name ∙ ap (λ b. cond b a.bytes (files_found asked a.name)) (same_name-refl a.name)

-- another name keeps what it had
pub found_still : (asked : List Answer) (a : Answer) → was_requested (names_of asked) a.name ≡ false → (x : List ℕ) → was_requested (names_of asked) x ≡ true →
    files_found (asked ++ a ∷ []) x ≡ files_found asked x
found_still asked a new x there = found_push asked a new x ∙ by (same_name x a.name) refl
  where
    by : (b : Bool) → same_name x a.name ≡ b → cond b a.bytes (files_found asked x) ≡ files_found asked x
    by true e = absurd (both_ways (was_requested (names_of asked) a.name) new (ap (was_requested (names_of asked)) (sym (same_name_eq x a.name e)) ∙ there))
    by false e = refl

-- what holds of each answer holds of the bytes of each name that was asked for
pub at_name : (P : List ℕ → Option (List ℕ) → Type 0) (asked : List Answer) → All (λ (a : Answer). P a.name a.bytes) asked → (x : List ℕ) →
    was_requested (names_of asked) x ≡ true → P x (files_found asked x)
at_name P [] all x there = absurd cc
at_name P (a ∷ more) all x there = by (same_name x a.name) refl there (λ t. at_name P more (All-tail (λ (c : Answer). P c.name c.bytes) a more all) x t)
  where
    by : (b : Bool) → same_name x a.name ≡ b → (b || was_requested (names_of more) x) ≡ true → (was_requested (names_of more) x ≡ true → P x (files_found more x)) →
        P x (cond b a.bytes (files_found more x))
    by true e t rest = subst (λ (y : List ℕ). P y a.bytes) (sym (same_name_eq x a.name e)) (All-head (λ (c : Answer). P c.name c.bytes) a more all)
    by false e t rest = rest t

-- ---- Lines

pub total_append : (asked others : List Answer) → line_total (asked ++ others) ≡ line_total asked + line_total others
total_append [] others = omega arith
total_append (a ∷ more) others = let e = total_append more others in omega arith

-- a front has no more lines
pub total_take : (n : ℕ) (asked : List Answer) → line_total (take n asked) ≤ line_total asked
total_take zero asked = omega arith
total_take (suc n) [] = omega arith
total_take (suc n) (a ∷ more) = let h = total_take n more in omega arith
