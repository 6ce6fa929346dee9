-- Names that were asked for, and one more.
use Rattle.std.proofs.{Common.{Bool, Contains, List, [], ap, arith, cond, false, inl, inr, refl, slice_index_or, suc, sym, true, zero, ℕ, ◌++◌, ◌<◌, ◌||◌, ◌∙◌, ◌∷◌, ◌≡◌, ◌⊎◌}, lemmas.{Bool.both_ways, List.Folds.{list_any-append, list_any_at}, Map.Views.Contains-from_any}}
use Rattle.std.specs.List.{list_any}
use Rattle.kc_language.specs.Expressions.{mention, same_name}
use Rattle.kc_expr.proofs.NamesLemmas.{same_name-refl}
use Rattle.kc_read.proofs.FileLemmas.{same_name_eq}
use Rattle.kc_load.specs.Steps.{was_requested}

-- ---- A name that was asked for stands among the names

pub requested_in : (names : List (List ℕ)) (x : List ℕ) → Contains names x → was_requested names x ≡ true
requested_in names x h = list_any_at (same_name x) names h.0 x h.1 (ap (same_name x) h.2 ∙ same_name-refl x)

pub in_requested : (names : List (List ℕ)) (x : List ℕ) → was_requested names x ≡ true → Contains names x
in_requested names x h = Contains-from_any same_name_eq x names h

pub not_in : (names : List (List ℕ)) (x : List ℕ) → was_requested names x ≡ false → Contains names x → ⊥
not_in names x h c = both_ways (was_requested names x) h (requested_in names x c)

-- ---- One name more

mention_new : (requested : List (List ℕ)) (name : List ℕ) (b : Bool) → b ≡ false → cond b requested (requested ++ name ∷ []) ≡ requested ++ name ∷ []
mention_new requested name true e = absurd cc
mention_new requested name false e = refl

or_cases : (a b : Bool) → (a || b) ≡ true → (a ≡ true) ⊎ (b ≡ true)
or_cases true b e = inl refl
or_cases false b e = inr e

or_left : (a b : Bool) → a ≡ true → (a || b) ≡ true
or_left true b e = refl
or_left false b e = absurd cc

or_right : (a b : Bool) → b ≡ true → (a || b) ≡ true
or_right true b e = refl
or_right false b e = e

module _ (requested : List (List ℕ)) (name : List ℕ) (is_new : was_requested requested name ≡ false) where
  pub mention_is : mention requested name ≡ requested ++ name ∷ []
  mention_is = mention_new requested name (was_requested requested name) is_new

  now_requested : (x : List ℕ) → was_requested (mention requested name) x ≡ (was_requested requested x || (same_name x name || false))
  now_requested x = ap (list_any (same_name x)) mention_is ∙ list_any-append (same_name x) requested (name ∷ [])

  pub requested_still : (x : List ℕ) → was_requested requested x ≡ true → was_requested (mention requested name) x ≡ true
  requested_still x h = now_requested x ∙ or_left (was_requested requested x) (same_name x name || false) h

  pub requested_itself : was_requested (mention requested name) name ≡ true
  requested_itself = now_requested name ∙ or_right (was_requested requested name) (same_name name name || false) (or_left (same_name name name) false (same_name-refl name))

  pub requested_cases : (x : List ℕ) → was_requested (mention requested name) x ≡ true → (was_requested requested x ≡ true) ⊎ (x ≡ name)
  requested_cases x h =
      elim (or_cases (was_requested requested x) (same_name x name || false) (sym (now_requested x) ∙ h)) [
        | inl before ↦ inl before
        | inr now ↦ inr (same_name_eq x name (elim (or_cases (same_name x name) false now) [ inl e ↦ e | inr e ↦ absurd cc ]))
      ]

-- the one element of a list
pub only_element : (y x : List ℕ) → Contains (y ∷ []) x → y ≡ x
only_element y x h = at h.0 h.1 h.2
  where
    at : (k : ℕ) → k < 1 → slice_index_or (y ∷ []) k x ≡ x → y ≡ x
    at zero lt e = e
    at (suc k) lt e = absurd (omega arith)
