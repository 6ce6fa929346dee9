-- The order in which names are asked for is one: over files that agree on a front of it, it goes on with the same name.
use Rattle.std.proofs.{Common.{Contains, List, None, Option, Some, [], ap, arith, inl, inr, length, refl, subst, suc, sym, take, zero, ℕ, ◌++◌, ◌+◌, ◌∙◌, ◌∷◌, ◌≡◌, ◌⊎◌}, lemmas.List.{Elements.{Contains-append_cases, Contains-append_left, Contains-append_right}, take_all}}
use Rattle.kc_language.specs.Lines.{unread_lines}
use Rattle.kc_read.proofs.SourceLines.{one_list}
use Rattle.kc_load.specs.{Asking.{AreSourcesOf, AskedAlong, FileBytes, IsNew, asked, ended, passed}, Loading.OneOrder}

-- ---- Fronts of lists

pub in_first : {X : Type 0} (x : X) (xs : List X) → Contains (x ∷ xs) x
in_first x xs = (0, omega arith, refl)

pub in_later : {X : Type 0} (y : X) (xs : List X) (x : X) → Contains xs x → Contains (y ∷ xs) x
in_later y xs x h = Contains-append_right (y ∷ []) xs x h

module _ {X : Type 0} where
  join : (xs ys bs cs : List X) (m : ℕ) → take (suc m) xs ≡ take (suc m) ys → ((k : ℕ) → length xs + k ≡ m → xs ≡ ys → take (suc k) bs ≡ take (suc k) cs) →
      take (suc m) (xs ++ bs) ≡ take (suc m) (ys ++ cs)
  join [] [] bs cs m e on = on m (omega arith) refl
  join [] (y ∷ ys) bs cs m e on = absurd cc
  join (x ∷ xs) [] bs cs m e on = absurd cc
  join (x ∷ xs) (y ∷ ys) bs cs zero e on = e
  join (x ∷ xs) (y ∷ ys) bs cs (suc m) e on =
      let h : x ≡ y = cc in
      let t : take (suc m) xs ≡ take (suc m) ys = cc in
      λ i. h i ∷ join xs ys bs cs m t (λ k n s. on k (omega arith) (λ j. h j ∷ s j)) i

  -- what stands in a front of the one list stands in the front of both, as long
  front_left : (n : ℕ) (xs ys : List X) (x : X) → Contains (take n xs) x → Contains (take n (xs ++ ys)) x
  front_left zero xs ys x h = h
  front_left (suc n) [] ys x h = absurd (let lt = h.1 in omega arith)
  front_left (suc n) (y ∷ xs) ys x h = elim (Contains-append_cases (y ∷ []) (take n xs) x h) [
    | inl here ↦ Contains-append_left (y ∷ []) (take n (xs ++ ys)) x here
    | inr there ↦ in_later y (take n (xs ++ ys)) x (front_left n xs ys x there)
  ]

  -- and so does what stands in a front of the other, behind the first
  front_right : (xs ys : List X) (k n : ℕ) → length xs + k ≡ n → (x : X) → Contains (take k ys) x → Contains (take n (xs ++ ys)) x
  front_right [] ys k n e x h = let same : k ≡ n = omega arith in subst (λ m. Contains (take m ys) x) same h
  front_right (y ∷ xs) ys k zero e x h = absurd (omega arith)
  front_right (y ∷ xs) ys k (suc n) e x h = in_later y (take n (xs ++ ys)) x (front_right xs ys k n (omega arith) x h)

-- ---- What is asked for, taken apart

pub record AsksFirst (files : FileBytes) (before : List (List ℕ)) (name : List ℕ) (names all : List (List ℕ)) : Type 0 where
  pub sources : List (List ℕ)
  pub inside : List (List ℕ)
  pub behind : List (List ℕ)
  pub new : IsNew before name
  pub are : AreSourcesOf (files name) sources
  pub own : AskedAlong files (before ++ name ∷ []) sources inside
  pub others : AskedAlong files (before ++ name ∷ inside) names behind
  pub all_are : all ≡ name ∷ inside ++ behind

abbrev pub Parts : FileBytes → List (List ℕ) → List (List ℕ) → List (List ℕ) → Type 0
Parts files before [] all = all ≡ []
Parts files before (name ∷ names) all = ((IsNew before name → ⊥) × AskedAlong files before names all) ⊎ AsksFirst files before name names all

pub parts : {files : FileBytes} {before names all : List (List ℕ)} → AskedAlong files before names all → Parts files before names all
parts (ended before) = refl
parts (passed before names all name known d) = inl (known, d)
parts (asked before names sources inside behind name new are own others) = inr (record {
  sources = sources;
  inside = inside;
  behind = behind;
  new = new;
  are = are;
  own = own;
  others = others;
  all_are = refl;
})

pub one_sources : (o : Option (List ℕ)) (names others : List (List ℕ)) → AreSourcesOf o names → AreSourcesOf o others → names ≡ others
one_sources None names others e f = e ∙ sym f
one_sources (Some bytes) names others e f = one_list (unread_lines bytes 1) names others e f

-- ---- Over two maps of files

module _ (files others : FileBytes) where
  pub same_front : {before names all : List (List ℕ)} (d : AskedAlong files before names all) (more : List (List ℕ)) → AskedAlong others before names more → (n : ℕ) →
      ((x : List ℕ) → Contains (take n all) x → files x ≡ others x) → take (suc n) all ≡ take (suc n) more
  same_front (ended before) more e n agree = ap (take (suc n)) (sym (parts e))
  same_front (passed before names all name known d) more e n agree = elim (parts e) [
    | inl (passes, f) ↦ same_front d more f n agree
    | inr a ↦ absurd (known a.new)
  ]
  same_front (asked before names sources inside behind name new are own on) more e zero agree = elim (parts e) [
    | inl (passes, f) ↦ absurd (passes new)
    | inr a ↦ sym (ap (take (suc zero)) a.all_are)
  ]
  same_front (asked before names sources inside behind name new are own on) more e (suc m) agree = elim (parts e) [
    | inl (passes, f) ↦ absurd (passes new)
    | inr a ↦
        let here = agree name (in_first name (take m (inside ++ behind))) in
        let same = one_sources (others name) sources a.sources (subst (λ o. AreSourcesOf o sources) here are) a.are in
        let own_too = subst (λ (l : List (List ℕ)). AskedAlong others (before ++ name ∷ []) l a.inside) (sym same) a.own in
        let fronts = same_front own a.inside own_too m (λ x c. agree x (in_later name (take m (inside ++ behind)) x (front_left m inside behind x c))) in
        let both = join inside a.inside behind a.behind m fronts (λ k n s. same_front on a.behind (subst (λ (l : List (List ℕ)). AskedAlong others (before ++ name ∷ l) names a.behind) (sym s) a.others) k
        (λ x c. agree x (in_later name (take m (inside ++ behind)) x (front_right inside behind k m n x c)))) in
        ap (λ (l : List (List ℕ)). name ∷ l) both ∙ sym (ap (take (suc (suc m))) a.all_are)
  ]

pub one_order : OneOrder
one_order files first names others d e =
    let n = length names + length others in
    sym (take_all (suc n) names (omega arith)) ∙ same_front files files d others e n (λ x c. refl) ∙ take_all (suc n) others (omega arith)
