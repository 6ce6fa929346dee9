-- The words of an explanation decide: two inputs of one tree under which they read the same give the symbol the same value.
use Rattle.std.proofs.Common.{◌≡◌, refl, ap, sym, subst, ◌∙◌, inl, inr, true, false, true≢false, ◌<◌}
use Rattle.std.proofs.lemmas.Bool.{cases_Bool}
use Rattle.std.specs.List.{AllByRecursion, IsDistinct, filter_map, flat_map}
use Rattle.std.specs.Prelude.{Bool, List, None, Option, Some, [], if◌then◌else◌, is_some, length, map, not, option_map, slice_get, unwrap_or, ◌&&◌, ◌++◌, ◌≡◌, ℕ}
use Rattle.kc_language.specs.{ConfigFile.{UserInput}, Expansion.{attributes}, Expressions.{SymbolValue, Truth, same_name, symbol}, Statements.{Located, Numbered, statements}, Symbols.{SymbolFacts, TreeFacts, choice_facts, choice_of, definitions_of, enclosing_choice, facts_with, is_symbol_of, same_type, stated_type, symbol_facts, type_of}, Texts.{Solution, value_of}, Values.{choice_at, facts, known_from, name}, declared.{expressions.{SymId.{SymId}, SymbolType.{SymbolType, TheVariants.{Bool as IsBool, Hex, Int, Str, Tristate, Undefined}}, Tri.{TheVariants.{N, Y}}}}}
use Rattle.kc_outcome.specs.Explanations.{Fact, Holds, IsGivenByLine, IsSolved, WordsDecide, dependency_facts, facts_by, facts_in, facts_of, is_without_facts, prompt_facts, prompt_lines, user_facts, words_of}
use Rattle.kc_outcome.proofs.TreeParts.{choice_is, facts_are, symbol_count}
use Rattle.kc_outcome.proofs.SameEquation.{value_by, value_is}
use Rattle.kc_outcome.proofs.TreeNames.{apart_names, built_from}
use Rattle.kc_outcome.proofs.WordsOfMembers.{Apart, entry_same, place_entry}
use Rattle.kc_outcome.proofs.WordsOfSymbols.{SameList, facts_for, outside, same_list}

module _ (is_raw : Bool) (ss : List Numbered) (tree : TreeFacts) (a b : UserInput) (k w : SymId → SymbolValue) where
  abbrev word : Fact → List ℕ
  word = words_of is_raw tree

  abbrev Each : List Fact → Type 0
  Each = AllByRecursion (Holds ss tree b w)

  module _ (s : SymId) where
    untyped : (kind : SymbolType) (o : Option ℕ) → (same_type kind Undefined && not (is_some o)) ≡ true → value_by ss tree k a s kind o ≡ value_by ss tree w b s kind o
    untyped Undefined None e = refl
    untyped Undefined (Some c) e = absurd (true≢false (sym e))
    untyped IsBool o e = absurd (true≢false (sym e))
    untyped Tristate o e = absurd (true≢false (sym e))
    untyped Str o e = absurd (true≢false (sym e))
    untyped Int o e = absurd (true≢false (sym e))
    untyped Hex o e = absurd (true≢false (sym e))

    -- A symbol with a type or a choice has a definition.
    abbrev choice_by : List ℕ → Option ℕ
    choice_by js = slice_get (filter_map (enclosing_choice ss) js) 0

    abbrev type_by : List ℕ → SymbolType
    type_by js = unwrap_or (slice_get (filter_map stated_type (flat_map (attributes ss) js)) 0) (if is_some (choice_by js) then IsBool else Undefined)

    defined : (same_type (type_of ss s) Undefined && not (is_some (choice_of ss s))) ≡ false → definitions_of ss s ≡ [] → ⊥
    defined e none = true≢false (sym (ap (λ js. same_type (type_by js) Undefined && not (is_some (choice_by js))) none) ∙ e)

    typed : facts tree s ≡ Some (symbol_facts ss s) → Apart is_raw ss tree a b k w → ((c : ℕ) → choice_at tree c ≡ option_map (choice_facts ss) (place_entry is_raw ss tree a b k w c)) →
        (choice : Option ℕ) → choice_of ss s ≡ choice → SameList is_raw ss tree a b k w s choice → value_by ss tree k a s (type_of ss s) choice ≡ value_by ss tree w b s (type_of ss s) choice
    typed is apart at None e list = outside is_raw ss tree a b k w s e is list
    typed is apart at (Some c) e list = ap (λ x. Truth (if is_symbol_of s x then Y else N)) (entry_same is_raw ss tree a b k w apart c (place_entry is_raw ss tree a b k w c) (at c) list.rest)

    abbrev facts_from : UserInput → (SymId → SymbolValue) → Option SymbolFacts → List Fact
    facts_from input v o = elim o [
      | None ↦ []
      | Some g ↦ if is_without_facts ss tree input v g then [] else user_facts ss tree input v s g ++ flat_map (dependency_facts ss tree input v) (definitions_of ss s)
          ++ flat_map (prompt_facts ss tree input v) (prompt_lines ss (definitions_of ss s)) ++ facts_by ss tree input v s g g.choice
    ]

    abbrev facts_if : UserInput → (SymId → SymbolValue) → Bool → List Fact
    facts_if input v without = if without then [] else facts_for is_raw ss tree a b k w s input v (choice_of ss s)

    pub same_value : facts tree s ≡ Some (symbol_facts ss s) → Apart is_raw ss tree a b k w →
        ((c : ℕ) → choice_at tree c ≡ option_map (choice_facts ss) (place_entry is_raw ss tree a b k w c)) → IsGivenByLine is_raw tree a s → IsGivenByLine is_raw tree b s →
        map word (facts_of ss tree a k s) ≡ map word (facts_of ss tree b w s) →
        value_by ss tree k a s (type_of ss s) (choice_of ss s) ≡ value_by ss tree w b s (type_of ss s) (choice_of ss s)
    same_value is apart at first second e =
        let without = same_type (type_of ss s) Undefined && not (is_some (choice_of ss s)) in
        let words : map word (facts_if a k without) ≡ map word (facts_if b w without) =
        ap (λ o. map word (facts_from a k o)) (sym is) ∙ e ∙ ap (λ o. map word (facts_from b w o)) is in
        elim (cases_Bool without) [
          | inl t ↦ untyped (type_of ss s) (choice_of ss s) t
          | inr t ↦
              let all : map word (facts_if a k false) ≡ map word (facts_if b w false) =
              ap (λ x. map word (facts_if a k x)) (sym t) ∙ words ∙ ap (λ x. map word (facts_if b w x)) t in
              typed is apart at (choice_of ss s) refl (same_list is_raw ss tree a b k w s (choice_of ss s) first second (defined t) all)
        ]

abbrev Law : TreeFacts → Type 0
Law tree = (is_raw : Bool) (s : SymId) (a b : UserInput) (A B : Solution) → IsSolved tree a A → IsSolved tree b B → s.0 < length tree.names →
    IsGivenByLine is_raw tree a s → IsGivenByLine is_raw tree b s →
    map (words_of is_raw tree) (facts_in a A s) ≡ map (words_of is_raw tree) (facts_in b B s) → value_of A s.0 ≡ value_of B s.0

module _ (names : List (List ℕ)) (lines : List (Located Numbered)) where
  abbrev tree : TreeFacts
  tree = facts_with names lines

  abbrev ss : List Numbered
  ss = statements lines

  decide : IsDistinct same_name names → Law tree
  decide distinct is_raw s a b A B first second within one two e =
      let is = facts_are names lines s within in
      let k = known_from tree (value_of A) in let w = known_from tree (value_of B) in
      let words : map (words_of is_raw tree) (facts_of ss tree a k s) ≡ map (words_of is_raw tree) (facts_of ss tree b w s) =
      ap (λ t. map (words_of is_raw tree) (facts_of (statements t.lines) t a (known_from t (value_of A)) s)) (sym first.tree_is) ∙ e
      ∙ ap (λ t. map (words_of is_raw tree) (facts_of (statements t.lines) t b (known_from t (value_of B)) s)) second.tree_is in
      let count = symbol_count names lines in
      let apart = λ (m n : SymId) (h : m.0 < length tree.symbols) (g : n.0 < length tree.symbols) (named : name tree m ≡ name tree n).
      ap symbol (apart_names names distinct m.0 n.0 (subst (λ x. m.0 < x) count h) (subst (λ x. n.0 < x) count g) named) in
      value_is names lines s within a A first ∙ same_value is_raw ss tree a b k w s is apart (choice_is names lines) one two words ∙ sym (value_is names lines s within b B second)

pub words_decide : WordsDecide
words_decide files root tree is_raw s a b A B built first second within one two e =
    let made = built_from tree built.0 built.2 in
    subst Law (sym made.is) (decide made.names made.lines made.distinct) is_raw s a b A B first second within one two e
