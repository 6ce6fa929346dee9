-- Names that differ by one letter, symbol by symbol.
use Rattle.std.proofs.Common.{◌≡◌, ℕ, ◌+◌, List, [], ◌∷◌, ◌++◌, Bool, true, false, map, drop, refl, sym, ap, ◌∙◌, Some, append_assoc, append-nil}
use Rattle.std.specs.Prelude.{codes, slice_get, filter}
use Rattle.std.specs.List.{flat_map}
use Rattle.std.proofs.lemmas.List.{drop_more}
use Rattle.std.proofs.lemmas.Option.{get_or_from_slice_get, slice_get_within}
use Rattle.kc_language.specs.declared.expressions.SymId.{SymId}
use Rattle.kc_outcome.specs.Explanations.{differs_by_one}
use Rattle.kc_outcome.specs.Outcome.{near_text}
use Rattle.kc_language.specs.Symbols.{TreeFacts}
use Rattle.kc_language.specs.Values.{name}
use Rattle.kc_language.specs.Text.{byte}
use Rattle.kc_explain.specs.NearNames.{with_each, with_near}

-- the names that come after the first
abbrev more_near : List ℕ → List (List ℕ) → List ℕ
more_near asked names = flat_map (λ (called : List ℕ). codes ", " ++ called) (filter (differs_by_one asked) names)

-- the names after a first one: the text has a byte or more
some_near_by : (asked : List ℕ) (b : ℕ) (bs called : List ℕ) (names : List (List ℕ)) (differs : Bool) → differs_by_one asked called ≡ differs →
    ((more : List ℕ) → with_each asked (b ∷ more) names ≡ (b ∷ more) ++ more_near asked names) →
    with_each asked (b ∷ bs) (called ∷ names) ≡ (b ∷ bs) ++ more_near asked (called ∷ names)
some_near_by asked b bs called names true is rest =
    rw is (rest (bs ++ codes ", " ++ called) ∙ ap (λ text. text ++ more_near asked names) (append_assoc (b ∷ bs) (codes ", ") called)
    ∙ append_assoc (b ∷ bs) (codes ", " ++ called) (more_near asked names))
some_near_by asked b bs called names false is rest = rw is (rest bs)

some_near : (asked : List ℕ) (b : ℕ) (names : List (List ℕ)) (bs : List ℕ) → with_each asked (b ∷ bs) names ≡ (b ∷ bs) ++ more_near asked names
some_near asked b [] bs = sym (append-nil (b ∷ bs))
some_near asked b (called ∷ names) bs = some_near_by asked b bs called names (differs_by_one asked called) refl (some_near asked b names)

-- the text of a list of names
abbrev near_in : List (List ℕ) → List ℕ
near_in names = elim names [ [] ↦ [] | called ∷ more ↦ codes "; one letter differs: " ++ called ++ flat_map (λ called. codes ", " ++ called) more ]

all_near_by : (asked called : List ℕ) (names : List (List ℕ)) (differs : Bool) → differs_by_one asked called ≡ differs →
    with_each asked [] names ≡ near_in (filter (differs_by_one asked) names) →
    with_each asked [] (called ∷ names) ≡ near_in (filter (differs_by_one asked) (called ∷ names))
all_near_by asked called names true is rest =
    rw is (some_near asked (byte ";") names (codes " one letter differs: " ++ called))
all_near_by asked called names false is rest = rw is rest

all_near : (asked : List ℕ) (names : List (List ℕ)) → with_each asked [] names ≡ near_in (filter (differs_by_one asked) names)
all_near asked [] = refl
all_near asked (called ∷ names) = all_near_by asked called names (differs_by_one asked called) refl (all_near asked names)

module _ (tree : TreeFacts) (asked : List ℕ) where
  -- no symbol so far
  pub near_begins : with_each asked [] (map (name tree) tree.defined) ≡ near_text tree asked
  near_begins = all_near asked (map (name tree) tree.defined)

  -- one symbol more
  pub near_next : (text : List ℕ) (i : ℕ) (s : SymId) (called : List ℕ) → slice_get tree.defined i ≡ Some s → slice_get tree.names s.0 ≡ Some called →
      with_each asked text (map (name tree) (drop i tree.defined)) ≡ with_each asked (with_near asked text called) (map (name tree) (drop (i + 1) tree.defined))
  near_next text i s called at found =
      let within = slice_get_within tree.defined i s at in
      rw (drop_more tree.defined i s within, get_or_from_slice_get tree.defined i s s at, get_or_from_slice_get tree.names s.0 called [] found) refl
