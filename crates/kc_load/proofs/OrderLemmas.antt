-- What is asked for along names: through two lists of them, and where no file is left.
use Rattle.std.proofs.{Common.{Bool, Contains, List, None, [], ap, append-nil, append_assoc, false, inl, inr, refl, subst, sym, true, ℕ, ◌++◌, ◌∙◌, ◌∷◌, ◌≡◌, ◌⊎◌}, lemmas.{Bool.both_ways, List.Elements.Contains-append_left, Str.{IsUtf8-from_is_utf8, is_utf8-from_IsUtf8}}}
use Rattle.std.specs.Str.{is_utf8}
use Rattle.kc_load.specs.{Asking.{AreSourcesOf, AskedAlong, FileBytes, IsNew, asked, ended, passed}, Steps.was_requested}
use Rattle.kc_load.proofs.RequestedLemmas.{in_requested, not_in}

-- a name is to be asked for, or it is not
pub new_or_not : (before : List (List ℕ)) (name : List ℕ) → IsNew before name ⊎ (IsNew before name → ⊥)
new_or_not before name = by (is_utf8 name) (was_requested before name) refl refl
  where
    by : (text there : Bool) → is_utf8 name ≡ text → was_requested before name ≡ there → IsNew before name ⊎ (IsNew before name → ⊥)
    by false there t e = inr (λ new. both_ways (is_utf8 name) t (is_utf8-from_IsUtf8 name new.0))
    by true true t e = inr (λ new. new.1 (in_requested before name e))
    by true false t e = inl (IsUtf8-from_is_utf8 name t, not_in before name e)

-- along two lists of names
pub split : {files : FileBytes} {before zs all : List (List ℕ)} (d : AskedAlong files before zs all) (xs ys : List (List ℕ)) → zs ≡ xs ++ ys →
    (inside : List (List ℕ)) × (behind : List (List ℕ)) × (all ≡ inside ++ behind) × AskedAlong files before xs inside × AskedAlong files (before ++ inside) ys behind
split {files} {before} {zs} {all} d [] ys e =
    ([], all, refl, ended before, subst (λ (l : List (List ℕ)). AskedAlong files l ys all) (sym (append-nil before)) (subst (λ (l : List (List ℕ)). AskedAlong files before l all) e d))
split (ended before) (x ∷ xs) ys e = absurd cc
split {files} (passed before zs all z known d) (x ∷ xs) ys e =
    let same : z ≡ x = cc in
    let rest : zs ≡ xs ++ ys = cc in
    let (inside, behind, all_is, first, second) = split d xs ys rest in
    (inside, behind, all_is, subst (λ (y : List ℕ). AskedAlong files before (y ∷ xs) inside) same (passed before xs inside z known first), second)
split {files} (asked before zs sources within more z new are d f) (x ∷ xs) ys e =
    let same : z ≡ x = cc in
    let rest : zs ≡ xs ++ ys = cc in
    let (inside, behind, more_is, first, second) = split f xs ys rest in (
      z ∷ within ++ inside,
      behind,
      ap (λ (l : List (List ℕ)). z ∷ within ++ l) more_is ∙ sym (append_assoc (z ∷ within) inside behind),
      subst (λ (y : List ℕ). AskedAlong files before (y ∷ xs) (z ∷ within ++ inside)) same (asked before xs sources within inside z new are d first),
      subst (λ (l : List (List ℕ)). AskedAlong files l ys behind) (append_assoc before (z ∷ within) inside) second,
    )

-- where each name that was not asked for has no file, what is asked for along any names
pub flat : (files : FileBytes) (names before : List (List ℕ)) → ((x : List ℕ) → (Contains before x → ⊥) → files x ≡ None) → (all : List (List ℕ)) × AskedAlong files before names all
flat files [] before none = ([], ended before)
flat files (name ∷ names) before none = elim (new_or_not before name) [
  | inr known ↦ let (all, d) = flat files names before none in (all, passed before names all name known d)
  | inl new ↦ let (all, d) = flat files names (before ++ name ∷ []) (λ x c. none x (λ there. c (Contains-append_left before (name ∷ []) x there))) in
      (name ∷ all, asked before names [] [] all name new (subst (λ o. AreSourcesOf o []) (sym (none name new.1)) refl) (ended (before ++ name ∷ [])) d)
]
