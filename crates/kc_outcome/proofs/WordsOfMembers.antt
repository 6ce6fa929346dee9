-- The words of an explanation of a choice decide which member is selected.
use Rattle.std.proofs.Common.{◌≡◌, refl, ap, sym, subst, ◌∙◌, inl, inr, true, false, true≢false, ◌<◌, append-nil}
use Rattle.std.proofs.lemmas.Option.{slice_get_within}
use Rattle.std.specs.List.{AllByRecursion, flat_map, list_any}
use Rattle.std.specs.Option.{option_or}
use Rattle.std.specs.Prelude.{Bool, List, None, Option, Some, [], filter, if◌then◌else◌, length, map, not, option_map, slice_get, slice_index_or, ◌&&◌, ◌++◌, ◌∷◌, ◌≡◌, ℕ}
use Rattle.kc_language.specs.{ConfigFile.{StreamLocation, UserInput, place_at}, Expressions.{SymbolValue, same_symbol}, Statements.{Numbered}, Symbols.{TreeFacts, choice_facts, choice_number, indices, listed, members_of, of_block}, Values.{ChoicePlace, Member, choice_at, conditions, facts, is_n, mode_of, name, selected}, declared.{expressions.{SymId.{SymId}}, statements.Block.{Block}}}
use Rattle.kc_outcome.specs.Explanations.{Fact, Holds, UserGave, choice_facts_at, choosing_line, dependency_parts, is_shown_member, member_value, part_facts, preset_facts, prompt_facts, prompt_lines, selection_facts, words_of}
use Rattle.kc_outcome.proofs.FactLists.{found}
use Rattle.kc_outcome.proofs.FactsOfMembers as member
use Rattle.kc_outcome.proofs.FactsHold.{presets_hold}
use Rattle.kc_outcome.proofs.SameWords as same
use Rattle.kc_outcome.proofs.SameWords.{two_parts, with_nil}
use Rattle.kc_outcome.proofs.WordsOfSymbols.{and_false}
use Rattle.kc_outcome.proofs.WordLists.{after, heads}
use Rattle.kc_outcome.proofs.WordsTell as tell
use Rattle.kc_outcome.proofs.WordsTell.{ends_in_value, text_given, truth_given, user_words}

module _ (is_raw : Bool) (ss : List Numbered) (tree : TreeFacts) (a b : UserInput) (k w : SymId → SymbolValue) where
  abbrev word : Fact → List ℕ
  word = words_of is_raw tree

  abbrev Each : List Fact → Type 0
  Each = AllByRecursion (Holds ss tree b w)

  -- ---- The members of a choice
  -- Names tell members apart.
  abbrev pub Apart : Type 0
  Apart = (m n : SymId) → m.0 < length tree.symbols → n.0 < length tree.symbols → name tree m ≡ name tree n → m ≡ n

  module _ (j c : ℕ) where
    presets : map word (preset_facts ss tree a k j) ≡ map word (preset_facts ss tree b w j) → member.preset ss tree a b k w j k ≡ member.preset ss tree a b k w j w
    presets e =
        let parts = same.presets_aligned is_raw ss tree a b k w j [] [] (with_nil is_raw ss tree a b k w (preset_facts ss tree a k j) (preset_facts ss tree b w j) e) in
        member.preset_same ss tree a b k w j (subst Each (sym parts.0) (presets_hold ss tree b w j))

    -- A member that is not visible, or no member, is not selected.
    abbrev is_shown : UserInput → (SymId → SymbolValue) → SymId → Bool
    is_shown input v m = is_shown_member ss tree input v j m

    abbrev after_member : UserInput → (SymId → SymbolValue) → Bool → List Fact
    after_member input v shown = if shown then [] else preset_facts ss tree input v j

    abbrev choice_of_shown : (SymId → SymbolValue) → SymId → Bool → Option SymId
    choice_of_shown v m shown = option_or (if shown then Some m else None) (member.preset ss tree a b k w j v)

    not_shown : (input : UserInput) (v : SymId → SymbolValue) (m : SymId) → is_n (member_value ss tree input v m) ≡ true → is_shown input v m ≡ false
    not_shown input v m e = ap (λ n. list_any (same_symbol m) (members_of ss (choice_number ss j)) && not n) e ∙ and_false (list_any (same_symbol m) (members_of ss (choice_number ss j)))

    by_shown : (m n : SymId) (x y : Bool) → x ≡ y → (x ≡ true → m ≡ n) → map word (after_member a k x) ≡ map word (after_member b w y) →
        choice_of_shown k m x ≡ choice_of_shown w n y
    by_shown m n true true e is words = ap Some (is refl)
    by_shown m n false false e is words = presets words
    by_shown m n true false e is words = absurd (true≢false e)
    by_shown m n false true e is words = absurd (true≢false (sym e))

    within : (input : UserInput) (v : SymId → SymbolValue) (m : SymId) → is_n (member_value ss tree input v m) ≡ false → m.0 < length tree.symbols
    within input v m e = elim (found (facts tree m)) [
      | inl none ↦
          let least : is_n (member_value ss tree input v m) ≡ true = ap (λ o. is_n (conditions tree v (flat_map (λ g. g.prompts) (listed o)))) none in
          absurd (true≢false (sym least ∙ e))
      | inr some ↦ slice_get_within tree.symbols m.0 some.0 some.1
    ]

    abbrev chosen : (SymId → SymbolValue) → Option SymId → Option SymId
    chosen v o = option_or (member.asked ss tree a b k w j v (option_map Member o)) (member.preset ss tree a b k w j v)

    selection_same : Apart → (x y : Option StreamLocation) (o p : Option SymId) →
        word (UserGave x (ChoicePlace c) (option_map Member o)) ≡ word (UserGave y (ChoicePlace c) (option_map Member p)) →
        map word (selection_facts ss tree a k j (option_map Member o)) ≡ map word (selection_facts ss tree b w j (option_map Member p)) → chosen k o ≡ chosen w p
    selection_same apart x y None None told words = presets words
    selection_same apart x y None (Some n) told words = absurd (tell.chosen_none is_raw tree n told)
    selection_same apart x y (Some m) None told words = absurd (tell.chosen_none is_raw tree m (sym told))
    selection_same apart x y (Some m) (Some n) told words =
        let names = tell.chosen_named is_raw tree m n told in
        let value = tell.member is_raw tree m n _ _ names (heads words).0 in
        ap (choice_of_shown k m) (member.member_is ss tree a b k w j m) ∙ by value names (heads words).1 (is_n (member_value ss tree a k m)) refl
        ∙ sym (ap (choice_of_shown w n) (member.member_is ss tree b b w w j n))
      where
        by : member_value ss tree a k m ≡ member_value ss tree b w n → name tree m ≡ name tree n →
            map word (after_member a k (is_shown a k m)) ≡ map word (after_member b w (is_shown b w n)) →
            (hidden : Bool) → is_n (member_value ss tree a k m) ≡ hidden → choice_of_shown k m (is_shown a k m) ≡ choice_of_shown w n (is_shown b w n)
        by value names words true e =
            let first = not_shown a k m e in let second = not_shown b w n (ap is_n (sym value) ∙ e) in
            by_shown m n _ _ (first ∙ sym second) (λ t. absurd (true≢false (sym t ∙ first))) words
        by value names words false e =
            let same_one = apart m n (within a k m e) (within b w n (ap is_n (sym value) ∙ e)) names in
            by_shown m n _ _ (ap (λ t. list_any (same_symbol m) (members_of ss (choice_number ss j)) && not (is_n t)) value
            ∙ ap (λ q. list_any (same_symbol q) (members_of ss (choice_number ss j)) && not (is_n (member_value ss tree b w n))) same_one) (λ t. same_one) words

    -- The choice itself
    abbrev front_facts : UserInput → (SymId → SymbolValue) → List Fact
    front_facts input v = part_facts ss tree input v (dependency_parts ss j) ++ flat_map (prompt_facts ss tree input v) (prompt_lines ss (j ∷ []))

    abbrev tail_facts : UserInput → (SymId → SymbolValue) → Bool → List Fact
    tail_facts input v off = let given = place_at input.places (ChoicePlace c) in
        if off then [] else UserGave (choosing_line ss tree input v given) (ChoicePlace c) given ∷ selection_facts ss tree input v j given

    pub choice_same : Apart → choice_at tree c ≡ Some (choice_facts ss j) → map word (choice_facts_at ss tree a k c j) ≡ map word (choice_facts_at ss tree b w c j) →
        selected tree k (choice_at tree c) (place_at a.places (ChoicePlace c)) ≡ selected tree w (choice_at tree c) (place_at b.places (ChoicePlace c))
    choice_same apart at e =
        let mode = tell.mode is_raw tree j c _ _ (heads e).0 in
        let fronts = after word (part_facts ss tree a k (dependency_parts ss j)) (part_facts ss tree b w (dependency_parts ss j)) _ _
        (same.parts_aligned is_raw ss tree a b k w (dependency_parts ss j)) (same.prompts_aligned is_raw ss tree a b k w (prompt_lines ss (j ∷ []))) in
        let rest = fronts _ _ (two_parts is_raw ss tree a b k w (front_facts a k) (front_facts b w) _ _ (heads e).1) in
        ap (λ o. selected tree k o (place_at a.places (ChoicePlace c))) at ∙ by (is_n (mode_of tree k (choice_at tree c))) refl (ap is_n (sym mode)) rest.1
        ∙ sym (ap (λ o. selected tree w o (place_at b.places (ChoicePlace c))) at)
      where
        here : (v : SymId → SymbolValue) → is_n (mode_of tree v (Some (choice_facts ss j))) ≡ is_n (mode_of tree v (choice_at tree c))
        here v = ap (λ o. is_n (mode_of tree v o)) (sym at)

        by : (off : Bool) → is_n (mode_of tree k (choice_at tree c)) ≡ off → is_n (mode_of tree w (choice_at tree c)) ≡ is_n (mode_of tree k (choice_at tree c)) →
            map word (tail_facts a k (is_n (mode_of tree k (choice_at tree c)))) ≡ map word (tail_facts b w (is_n (mode_of tree w (choice_at tree c)))) →
            selected tree k (Some (choice_facts ss j)) (place_at a.places (ChoicePlace c)) ≡ selected tree w (Some (choice_facts ss j)) (place_at b.places (ChoicePlace c))
        by true e mode words = let first = here k ∙ e in let second = here w ∙ mode ∙ e in rw (first, second) refl
        by false e mode words =
            let first = here k ∙ e in let second = here w ∙ mode ∙ e in
            let tails : map word (tail_facts a k false) ≡ map word (tail_facts b w false) =
            ap (λ n. map word (tail_facts a k n)) (sym e) ∙ words ∙ ap (λ n. map word (tail_facts b w n)) (mode ∙ e) in
            rw (first, second) (selection_same apart (choosing_line ss tree a k (place_at a.places (ChoicePlace c)))
            (choosing_line ss tree b w (place_at b.places (ChoicePlace c))) (slice_index_or a.places.choices c None) (slice_index_or b.places.choices c None)
            (heads tails).0 (heads tails).1)

  abbrev pub place_entry : ℕ → Option ℕ
  place_entry c = slice_get (filter (of_block ss Block.Choice) (indices ss)) c

  pub entry_same : Apart → (c : ℕ) (o : Option ℕ) → choice_at tree c ≡ option_map (choice_facts ss) o →
      map word (flat_map (choice_facts_at ss tree a k c) (listed o)) ≡ map word (flat_map (choice_facts_at ss tree b w c) (listed o)) →
      selected tree k (choice_at tree c) (place_at a.places (ChoicePlace c)) ≡ selected tree w (choice_at tree c) (place_at b.places (ChoicePlace c))
  entry_same apart c None at e = rw at refl
  entry_same apart c (Some j) at e = choice_same j c apart at (ap (map word) (sym (append-nil (choice_facts_at ss tree a k c j))) ∙ e
      ∙ ap (map word) (append-nil (choice_facts_at ss tree b w c j)))
