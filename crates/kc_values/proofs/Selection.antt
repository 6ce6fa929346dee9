-- What a choice selects.
use Rattle.std.proofs.{Common.{Bool, List, None, Option, Some, [], ap, arith, cond, false, inl, inr, not, refl, suc, sym, true, ◌&&◌, ◌∙◌, ◌∷◌, ◌≡◌, ◌⊎◌}, lemmas.{Bool.{and_from, and_parts}, List.Folds.list_any_at}}
use Rattle.std.specs.{List.{Contains, find, list_any}, Option.option_or}
use Rattle.kc_language.specs.{Expressions.{SymbolValue, same_symbol}, Symbols.{ChoiceFacts, Guarded, TreeFacts}, Values.{GivenText, GivenTruth, GivenValue, Member, is_n}, declared.expressions.SymId.SymId}
use Rattle.kc_language.specs.Values as v
use Rattle.kc_values.specs.PartsOfValues as v_parts
use Rattle.kc_values.proofs.{Same.same_symbol_itself, TreeNeeds.among}
use Rattle.kc_values.specs.PartsOfValues.{chosen_member, unselected}

found_at : {X : Type 0} (p : X → Bool) (b : Bool) (x y : X) (xs : List X) → p x ≡ b → (find p xs ≡ Some y → (p y ≡ true) × Contains xs y) → cond b (Some x) (find p xs) ≡ Some y →
    (p y ≡ true) × Contains (x ∷ xs) y
found_at p true x y xs t rec e = let i : x ≡ y = cc in (ap p (sym i) ∙ t, (0, omega arith, i))
found_at p false x y xs f rec e = let r = rec e in (r.0, (suc r.1.0, omega (arith, r.1.1), r.1.2))

pub found : {X : Type 0} (p : X → Bool) (xs : List X) (y : X) → find p xs ≡ Some y → (p y ≡ true) × Contains xs y
found p [] y e = cc
found p (x ∷ xs) y e = found_at p (p x) x y xs refl (found p xs y) e

pub in_list : (m : SymId) (ms : List SymId) → Contains ms m → list_any (same_symbol m) ms ≡ true
in_list m ms c = list_any_at (same_symbol m) ms c.0 m c.1 (ap (same_symbol m) c.2 ∙ same_symbol_itself m)

module _ (tree : TreeFacts) (k : SymId → SymbolValue) where
  either_some : (a b : Option SymId) (m : SymId) → option_or a b ≡ Some m → (a ≡ Some m) ⊎ (b ≡ Some m)
  either_some None b m e = inr e
  either_some (Some x) b m e = inl e

  neither : (a b : Option SymId) → option_or a b ≡ None → b ≡ None
  neither None b e = e
  neither (Some x) b e = cc

  unlock : {X : Type 0} (b : Bool) (x : Option X) (m : X) → cond b None x ≡ Some m → (b ≡ false) × (x ≡ Some m)
  unlock true x m e = cc
  unlock false x m e = (refl, e)

  chosen_if : (b : Bool) (x m : SymId) → cond b (Some x) None ≡ Some m → (b ≡ true) × (x ≡ m)
  chosen_if true x m e = (refl, cc)
  chosen_if false x m e = cc

  chosen_visible : (c : ChoiceFacts) (user : Option GivenValue) (m : SymId) → chosen_member tree k c user ≡ Some m → v.visible_member tree k c m ≡ true
  chosen_visible c None m e = cc
  chosen_visible c (Some (GivenTruth t)) m e = cc
  chosen_visible c (Some (GivenText t)) m e = cc
  chosen_visible c (Some (Member x)) m e = let h = chosen_if (v.visible_member tree k c x) x m e in sym (ap (v.visible_member tree k c) h.1) ∙ h.0

  what_some : (o : Option (Guarded SymId)) (m : SymId) → v_parts.what_of o ≡ Some m → (g : Guarded SymId) × (o ≡ Some g) × (g.what ≡ m)
  what_some None m e = cc
  what_some (Some g) m e = (g, refl, cc)

  unselected_visible : (c : ChoiceFacts) (m : SymId) → unselected tree k c ≡ Some m → v.visible_member tree k c m ≡ true
  unselected_visible c m e =
      let p = λ (g : Guarded SymId). not (is_n (v.condition tree k g.when)) && v.visible_member tree k c g.what in
      elim (either_some (v_parts.what_of (find p c.defaults)) (find (v.visible tree k) c.members) m e) [
        | inl d ↦
            let w = what_some (find p c.defaults) m d in
            let f = found p c.defaults w.0 w.1 in
            ap (v.visible_member tree k c) (sym w.2) ∙ (and_parts (not (is_n (v.condition tree k w.0.when))) (v.visible_member tree k c w.0.what) f.0).1
        | inr d ↦
            let f = found (v.visible tree k) c.members m d in
            and_from (list_any (same_symbol m) c.members) (v.visible tree k m) (in_list m c.members f.1) f.0
      ]

  -- what is selected is a visible member
  pub selected_visible : (c : ChoiceFacts) (user : Option GivenValue) (m : SymId) → v.selected tree k (Some c) user ≡ Some m → v.visible_member tree k c m ≡ true
  selected_visible c user m e =
      let h = unlock (is_n (v.mode_of tree k (Some c))) _ m e in
      elim (either_some (chosen_member tree k c user) (unselected tree k c) m h.1) [
        | inl a ↦ chosen_visible c user m a
        | inr b ↦ unselected_visible c m b
      ]

  -- what is selected is selected again where it is the user's
  pub selected_again : (o : Option ChoiceFacts) (user : Option GivenValue) (m : SymId) → v.selected tree k o user ≡ Some m → v.selected tree k o (Some (Member m)) ≡ Some m
  selected_again None user m e = e
  selected_again (Some c) user m e =
      let h = unlock (is_n (v.mode_of tree k (Some c))) _ m e in
      let s = selected_visible c user m e in
      ap (λ b. cond b None (option_or (chosen_member tree k c (Some (Member m))) (unselected tree k c))) h.0
      ∙ ap (λ b. option_or (cond b (Some m) None) (unselected tree k c)) s

  locked : (b : Bool) (x y : Option SymId) → (x ≡ None → y ≡ None) → cond b None x ≡ None → cond b None y ≡ None
  locked true x y h e = refl
  locked false x y h e = h e

  -- where nothing is selected, nothing is without the user's
  pub none_selected : (o : Option ChoiceFacts) (user : Option GivenValue) → v.selected tree k o user ≡ None → v.selected tree k o None ≡ None
  none_selected None user e = e
  none_selected (Some c) user e =
      locked (is_n (v.mode_of tree k (Some c))) (option_or (chosen_member tree k c user) (unselected tree k c)) (unselected tree k c)
      (neither (chosen_member tree k c user) (unselected tree k c)) e

  -- what is selected is a member of a choice that is there
  pub selected_member : (o : Option ChoiceFacts) (user : Option GivenValue) (m : SymId) → v.selected tree k o user ≡ Some m → (c : ChoiceFacts) × (o ≡ Some c) × Contains c.members m
  selected_member None user m e = cc
  selected_member (Some c) user m e =
      let s = selected_visible c user m e in
      (c, refl, among m c.members (and_parts (list_any (same_symbol m) c.members) (v.visible tree k m) s).0)
