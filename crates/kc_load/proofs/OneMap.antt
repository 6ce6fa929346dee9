-- Over a folder that tells its files, what loading gives is one map.
use Rattle.std.proofs.{Common.{All, Bool, Contains, List, Option, Some, [], ap, append-nil, arith, drop, false, inl, inr, length, length-append, map, nat_le, refl, subst, suc, sym, take, true, zero, ℕ, ◌++◌, ◌+◌, ◌∙◌, ◌∷◌, ◌≡◌, ◌≤◌, ◌⊎◌}, Math.ListN.length-map, lemmas.{Bool.Decides.nat_tests, List.{Elements.{All-head, All-tail, Contains-append_left}, length-take, map-append, take-append-drop, take-append-le, take_all}}}
use Rattle.kc_language.specs.{Files.path_of, Text.most_lines}
use Rattle.kc_load.specs.{Folder.{Answer, AreAsked, files_found, line_total}, Loading.{OneMap, WereWithin}}
use Rattle.kc_load.proofs.{FoundLemmas.{at_name, names_of}, OneOrder.same_front, RequestedLemmas.requested_in}

module _ (folder_files : List ℕ → Option (List ℕ)) (dir first : List ℕ) where
  -- the answer that the folder tells
  abbrev told : List ℕ → Answer
  told name = record { name = name; bytes = folder_files (path_of dir name) }

  abbrev AreTold : List Answer → Type 0
  AreTold asked = All (λ (a : Answer). folder_files (path_of dir a.name) ≡ a.bytes) asked

  -- the answers are those of their names
  answers_are : (asked : List Answer) → AreTold asked → asked ≡ map told (names_of asked)
  answers_are [] all = refl
  answers_are (a ∷ more) all =
      let here : a ≡ told a.name = ap (λ (o : Option (List ℕ)). record { name = a.name; bytes = o }) (sym (All-head (λ (b : Answer). folder_files (path_of dir b.name) ≡ b.bytes) a more all)) in
      let rest = answers_are more (All-tail (λ (b : Answer). folder_files (path_of dir b.name) ≡ b.bytes) a more all) in
      λ i. here i ∷ rest i

  told_at : (asked : List Answer) → AreTold asked → (x : List ℕ) → Contains (names_of asked) x → folder_files (path_of dir x) ≡ files_found asked x
  told_at asked all x c = at_name (λ y o. folder_files (path_of dir y) ≡ o) asked all x (requested_in (names_of asked) x c)

  front_in : (k : ℕ) (xs : List (List ℕ)) (x : List ℕ) → Contains (take k xs) x → Contains xs x
  front_in k xs x c = subst (λ (l : List (List ℕ)). Contains l x) (take-append-drop k xs) (Contains-append_left (take k xs) (drop k xs) x c)

  length_names : (asked : List Answer) → length (names_of asked) ≡ length asked
  length_names asked = simp length-map

  module _ (asked others : List Answer) (next coming : List (List ℕ)) (a : AreAsked (Some folder_files) dir first asked next) (b : AreAsked (Some folder_files) dir first others coming) where
    -- where a front of the names that were asked for is the same, so is the next one
    more_same : (k : ℕ) → k ≤ length asked → k ≤ length others → take k (names_of asked) ≡ take k (names_of others) →
        take (suc k) (names_of asked ++ next) ≡ take (suc k) (names_of others ++ coming)
    more_same k l m e = same_front (files_found asked) (files_found others) a.in_order (names_of others ++ coming) b.in_order k (λ x c. agree x c)
      where
        front : take k (names_of asked ++ next) ≡ take k (names_of asked)
        front = let n = length_names asked in take-append-le k (names_of asked) next (omega arith)

        agree : (x : List ℕ) → Contains (take k (names_of asked ++ next)) x → files_found asked x ≡ files_found others x
        agree x c =
            let here = subst (λ (s : List (List ℕ)). Contains s x) front c in
            sym (told_at asked a.answers x (front_in k (names_of asked) x here))
            ∙ told_at others b.answers x (front_in k (names_of others) x (subst (λ (s : List (List ℕ)). Contains s x) e here))

    common : (k : ℕ) → k ≤ length asked → k ≤ length others → take k (names_of asked) ≡ take k (names_of others)
    common zero l m = refl
    common (suc k) l m =
        let n = length_names asked in
        let o = length_names others in
        sym (take-append-le (suc k) (names_of asked) next (omega arith)) ∙ more_same k (omega arith) (omega arith) (common k (omega arith) (omega arith))
        ∙ take-append-le (suc k) (names_of others) coming (omega arith)

    module _ (short : length asked ≤ length others) where
      abbrev rest : List (List ℕ)
      rest = drop (length asked) (names_of others)

      front_is : names_of asked ≡ take (length asked) (names_of others)
      front_is = let n = length_names asked in sym (take_all (length asked) (names_of asked) (omega arith)) ∙ common (length asked) (omega arith) short

      -- the others go on behind the same answers
      go_on : others ≡ asked ++ map told rest
      go_on =
          answers_are others b.answers ∙ ap (map told) (sym (take-append-drop (length asked) (names_of others)) ∙ ap (λ (l : List (List ℕ)). l ++ rest) (sym front_is))
          ∙ map-append told (names_of asked) rest ∙ ap (λ (l : List Answer). l ++ map told rest) (sym (answers_are asked a.answers))

      -- all names were asked for, so they do not go on
      no_more : next ≡ [] → length others ≤ length asked
      no_more none =
          let e = more_same (length asked) (omega arith) short (common (length asked) (omega arith) short) in
          let f : take (suc (length asked)) (names_of asked) ≡ take (suc (length asked)) (names_of others ++ coming) =
          ap (take (suc (length asked))) (sym (append-nil (names_of asked)) ∙ ap (λ (l : List (List ℕ)). names_of asked ++ l) (sym none)) ∙ e in
          let m = ap length f in
          let l = length-take (suc (length asked)) (names_of asked) in
          let r = length-take (suc (length asked)) (names_of others ++ coming) in
          let n = length_names asked in
          let o = length_names others in
          let all = length-append (names_of others) coming in
          omega arith

      same_asked : (line_total asked ≤ most_lines → next ≡ []) → WereWithin others → asked ≡ others
      same_asked are_all within = by rest refl
        where
          by : (l : List (List ℕ)) → rest ≡ l → asked ≡ others
          by [] e = sym (go_on ∙ ap (λ (l : List (List ℕ)). asked ++ map told l) e ∙ append-nil asked)
          by (name ∷ names) e =
              let is : others ≡ asked ++ told name ∷ map told names = go_on ∙ ap (λ (l : List (List ℕ)). asked ++ map told l) e in
              let few = within asked (map told names) (told name) is in
              let longer : length others ≡ length asked + suc (length (map told names)) = ap length is ∙ length-append asked (told name ∷ map told names) in
              let not_longer = no_more (are_all few) in
              absurd (omega arith)

shorter_or : (m n : ℕ) → (m ≤ n) ⊎ (n ≤ m)
shorter_or m n = by (nat_le m n) refl
  where
    by : (b : Bool) → nat_le m n ≡ b → (m ≤ n) ⊎ (n ≤ m)
    by true e = inl (grind (arith, nat_tests))
    by false e = inr (grind (arith, nat_tests))

pub one_map : OneMap
one_map folder_files dir first files others a b name = a.held name ∙ ap (λ (l : List Answer). files_found l name) same ∙ sym (b.held name)
  where
    same : a.asked ≡ b.asked
    same = elim (shorter_or (length a.asked) (length b.asked)) [
      | inl short ↦ same_asked folder_files dir first a.asked b.asked a.next b.next a.are_asked b.are_asked short a.are_all b.within
      | inr short ↦ sym (same_asked folder_files dir first b.asked a.asked b.next a.next b.are_asked a.are_asked short b.are_all a.within)
    ]
