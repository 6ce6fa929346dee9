-- The facts of an explanation suffice, for the members of a choice.
use Rattle.std.proofs.Common.{◌≡◌, refl, ap, sym, subst, ◌∙◌, inl, inr, true, false, ℕ, append-nil}
use Rattle.std.proofs.lemmas.Bool.{cases_Bool}
use Rattle.std.specs.List.{AllByRecursion, find, flat_map, list_any}
use Rattle.std.specs.Option.{option_or}
use Rattle.std.specs.Prelude.{Bool, List, None, Option, Some, [], if◌then◌else◌, map, not, option_map, suc, ◌&&◌, ◌++◌, ◌∷◌, ◌≡◌}
use Rattle.kc_language.specs.{ConfigFile.{UserInput, place_at}, Expansion.{attributes}, Expressions.{Form, SymbolValue, same_symbol}, Statements.{Numbered}, Symbols.{ChoiceFacts, Guarded, TreeFacts, choice_facts, choice_number, members_of}, Values.{ChoicePlace, GivenText, GivenTruth, GivenValue, Member, choice_at, condition, conditions, facts, is_n, mode_of, selected, visible}, declared.expressions.{SymId.{SymId}}}
use Rattle.kc_outcome.specs.Explanations.{Fact, Holds, Said, UserGave, choice_facts_at, choosing_line, counts, default_members, is_shown_member, is_met, member_fact, member_default_fact, member_value, preset_facts, prompts_in, selection_facts, through, part_facts, prompt_facts, prompt_lines, dependency_parts}
use Rattle.kc_outcome.proofs.ExplanationParts.{line_is}
use Rattle.kc_outcome.proofs.FactLists.{IsFirst, back, changed, first_of, found, front, of_map}
use Rattle.kc_outcome.proofs.SaidLines.{guard_of, member_defaults}

map_id : {X : Type 0} (xs : List X) → map (λ x. x) xs ≡ xs
map_id [] = refl
map_id (x ∷ xs) = ap (λ ys. x ∷ ys) (map_id xs)

none_passes : {X Y : Type 0} (met : X → Bool) (p : Y → Bool) (f : X → Y) → ((x : X) → p (f x) ≡ met x) → (xs : List X) → find p (map f xs) ≡ None → list_any met xs ≡ false
none_passes met p f same [] e = refl
none_passes met p f same (x ∷ xs) e = elim (cases_Bool (met x)) [
  | inl t ↦ let u : p (f x) ≡ true = same x ∙ t in let wrong : Some (f x) ≡ None = rw u at e in absurd (some_none (f x) wrong)
  | inr t ↦ let u : p (f x) ≡ false = same x ∙ t in let more : find p (map f xs) ≡ None = rw u at e in rw t (none_passes met p f same xs more)
]
  where
    some_none : {Y : Type 0} (y : Y) → Some y ≡ None → ⊥
    some_none y h = cc

pub visible_is : (tree : TreeFacts) (v : SymId → SymbolValue) (m : SymId) → visible tree v m ≡ not (is_n (conditions tree v (prompts_in tree m)))
visible_is tree v m = elim (found (facts tree m)) [
  | inl e ↦ rw (e, visible, prompts_in) refl
  | inr f ↦ rw (f.1, visible, prompts_in) (ap (λ cs. not (is_n (conditions tree v cs))) (sym (append-nil (f.0).prompts)))
]

module _ (ss : List Numbered) (tree : TreeFacts) (input other : UserInput) (k w : SymId → SymbolValue) where
  abbrev H : Fact → Type 0
  H = Holds ss tree other w

  abbrev Each : List Fact → Type 0
  Each = AllByRecursion H

  seen_same : (m : SymId) → conditions tree w (prompts_in tree m) ≡ member_value ss tree input k m → visible tree w m ≡ visible tree k m
  seen_same m e = visible_is tree w m ∙ ap (λ t. not (is_n t)) e ∙ sym (visible_is tree k m)

  module _ (j : ℕ) where
    abbrev c : ChoiceFacts
    c = choice_facts ss j

    abbrev pub members : List SymId
    members = members_of ss (choice_number ss j)

    abbrev pub member : (SymId → SymbolValue) → SymId → Bool
    member v m = list_any (same_symbol m) members && visible tree v m

    abbrev passes : (SymId → SymbolValue) → Guarded SymId → Bool
    passes v g = not (is_n (condition tree v g.when)) && member v g.what

    abbrev pub preset : (SymId → SymbolValue) → Option SymId
    preset v = option_or (option_map (λ g. g.what) (find (passes v) c.defaults)) (find (visible tree v) members)

    abbrev named : SymId × Option Form → SymId
    named d = d.0

    abbrev named_if : SymId × Option Form → Option Form
    named_if d = d.1

    abbrev guard : Said (SymId × Option Form) → Guarded SymId
    guard = guard_of ss named named_if

    abbrev default_fact : Said (SymId × Option Form) → Fact
    default_fact = member_default_fact ss tree input k

    abbrev meets : Said (SymId × Option Form) → Bool
    meets = counts ss tree input k j

    pub member_is : (m : SymId) → member k m ≡ is_shown_member ss tree input k j m
    member_is m = ap (λ b. list_any (same_symbol m) members && b) (visible_is tree k m)

    meets_is : (d : Said (SymId × Option Form)) → passes k (guard d) ≡ meets d
    meets_is d = ap (λ t. not (is_n t) && member k (d.what).0) (sym (line_is ss tree k named_if d (named d.what)))
        ∙ ap (λ b. is_met ss tree input k named_if d && b) (member_is (d.what).0)

    meets_same : (d : Said (SymId × Option Form)) → H (default_fact d) → passes w (guard d) ≡ meets d
    meets_same d h = ap (λ t. not (is_n t) && member w (d.what).0) h.0
        ∙ ap (λ b. is_met ss tree input k named_if d && (list_any (same_symbol (d.what).0) members && b)) (seen_same (d.what).0 h.1)
        ∙ ap (λ b. is_met ss tree input k named_if d && b) (member_is (d.what).0)

    -- The first visible member
    abbrev seen : SymId → Bool
    seen m = not (is_n (member_value ss tree input k m))

    abbrev member_facts : List Fact
    member_facts = map (member_fact ss tree input k) (through seen members)

    first_same : Each member_facts → find (visible tree k) members ≡ find (visible tree w) members
    first_same h =
        let R = λ (m : SymId). H (member_fact ss tree input k m) in
        let first = first_of seen (visible tree k) (visible tree w) (λ m. m) R (visible_is tree k) members
        (changed R _ (through seen members) (λ m e. (visible_is tree w m ∙ ap (λ t. not (is_n t)) e, e)) (of_map H (member_fact ss tree input k) (through seen members) h)) in
        ap (find (visible tree k)) (sym (map_id members)) ∙ of R first ∙ ap (find (visible tree w)) (map_id members)
      where
        of : (R : SymId → Type 0) → IsFirst seen (visible tree k) (visible tree w) (λ m. m) R members →
            find (visible tree k) (map (λ m. m) members) ≡ find (visible tree w) (map (λ m. m) members)
        of R (inl none) = none.0 ∙ sym none.1
        of R (inr r) = r.first ∙ sym r.also

    -- The default that counts, else that member
    abbrev first_default : Type 0
    first_default = IsFirst meets (passes k) (passes w) guard (λ d. Unit {0}) (default_members ss j)

    pub preset_same : Each (preset_facts ss tree input k j) → preset k ≡ preset w
    preset_same h =
        let ls = default_members ss j in let told = through meets ls in
        let first = first_of meets (passes k) (passes w) guard (λ d. Unit {0}) meets_is ls
        (changed _ _ told (λ d e. (meets_same d e, tt)) (of_map H default_fact told (front H (map default_fact told) _ h))) in
        of (member_defaults ss j members (suc j) (attributes ss j)) first (back H (map default_fact told) _ h)
      where
        of : c.defaults ≡ map guard (default_members ss j) → first_default → Each (if list_any meets (default_members ss j) then [] else member_facts) → preset k ≡ preset w
        of e (inl none) rest =
            let any = none_passes meets (passes k) guard meets_is (default_members ss j) none.0 in
            let shown : Each member_facts = rw any at rest in
            rw (e, none.0, none.1) (first_same shown)
        of e (inr r) rest = rw (e, r.first, r.also) refl

    abbrev pub asked : (SymId → SymbolValue) → Option GivenValue → Option SymId
    asked v user = elim user [ Some (Member m) ↦ if member v m then Some m else None | _ ↦ None ]

    chosen_same : (user : Option GivenValue) → Each (selection_facts ss tree input k j user) → option_or (asked k user) (preset k) ≡ option_or (asked w user) (preset w)
    chosen_same None h = preset_same h
    chosen_same (Some (GivenTruth t)) h = preset_same h
    chosen_same (Some (GivenText b)) h = preset_same h
    chosen_same (Some (Member m)) h =
        let same : member w m ≡ is_shown_member ss tree input k j m = ap (λ b. list_any (same_symbol m) members && b) (seen_same m h.0) ∙ member_is m in
        elim (cases_Bool (is_shown_member ss tree input k j m)) [
          | inl e ↦ let a : member k m ≡ true = member_is m ∙ e in let b : member w m ≡ true = same ∙ e in rw (a, b) refl
          | inr e ↦
              let a : member k m ≡ false = member_is m ∙ e in let b : member w m ≡ false = same ∙ e in
              let rest : Each (preset_facts ss tree input k j) = rw e at h.1 in
              rw (a, b) (preset_same rest)
        ]

    pub selected_same : (i : ℕ) → choice_at tree i ≡ Some c → Each (choice_facts_at ss tree input k i j) →
        selected tree k (Some c) (place_at input.places (ChoicePlace i)) ≡ selected tree w (Some c) (place_at other.places (ChoicePlace i))
    selected_same i at h =
        let mode : mode_of tree w (Some c) ≡ mode_of tree k (Some c) = subst (λ o. mode_of tree w o ≡ mode_of tree k o) at h.0 in
        let parts = part_facts ss tree input k (dependency_parts ss j) in
        let prompts = flat_map (prompt_facts ss tree input k) (prompt_lines ss (j ∷ [])) in
        let last = subst (λ o. Each (if is_n (mode_of tree k o) then [] else chosen_facts)) at (back H (parts ++ prompts) _ h.1) in
        elim (cases_Bool (is_n (mode_of tree k (Some c)))) [
          | inl e ↦ let f : is_n (mode_of tree w (Some c)) ≡ true = ap is_n mode ∙ e in rw (e, f) refl
          | inr e ↦
              let f : is_n (mode_of tree w (Some c)) ≡ false = ap is_n mode ∙ e in
              let rest : Each chosen_facts = rw e at last in
              let user : place_at other.places (ChoicePlace i) ≡ chosen = rest.0 in
              rw (e, f, user) (chosen_same chosen rest.1)
        ]
      where
        chosen : Option GivenValue
        chosen = place_at input.places (ChoicePlace i)

        chosen_facts : List Fact
        chosen_facts = UserGave (choosing_line ss tree input k chosen) (ChoicePlace i) chosen ∷ selection_facts ss tree input k j chosen
