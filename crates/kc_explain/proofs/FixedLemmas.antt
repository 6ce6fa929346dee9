-- For proofs: Facts that no line can change.
use Rattle.std.proofs.Common.{true, false, ◌≡◌, ◌<◌, ◌≤◌, ◌+◌, ℕ, Bool, List, [], ◌∷◌, ◌++◌, ◌⊎◌, get_or, length, map, take, inl, inr, refl, sym, ap, subst, ◌∙◌, append-nil, append_assoc}
use Rattle.std.proofs.lemmas.Grind.{flat_map-append}
use Rattle.std.proofs.lemmas.List.{map-append, take_all, take_more}
use Rattle.std.specs.Prelude.{IfSome, Option, codes, slice_get}
use Rattle.std.proofs.lemmas.List.Elements.{All-from_recursion}
use Rattle.std.specs.List.{AllByRecursion, flat_map}
use Rattle.kc_language.specs.ConfigFile.{UserInput, place_at}
use Rattle.kc_language.specs.Expressions.{Form, SymbolValue, lesser, truth_of_value}
use Rattle.kc_language.specs.Statements.{Numbered, statements}
use Rattle.kc_language.specs.Symbols.{StatedDefault, TreeFacts, definitions_of}
use Rattle.kc_language.specs.Texts.{IsSolution, Solution, known, value_of}
use Rattle.kc_language.specs.Values.{GivenValue, known_from}
use Rattle.kc_language.specs.declared.expressions.{SymId.{SymId}, SymbolType.{SymbolType}, Tri.{TheVariants.{N, Y}, Tri}}
use Rattle.kc_outcome.specs.Explanations as rules
use Rattle.kc_outcome.specs.Explanations.{text_of_lines}
use Rattle.kc_outcome.proofs.FactLists.{changed}
use Rattle.kc_tree.proofs.ListLemmas.{flat-each, flat-map}
use Rattle.kc_possible.specs.Bounds.{IsWithin}
use Rattle.kc_possible.specs.PartsOfPossible.{Covers}
use Rattle.kc_possible.specs.Possible.{Allows, IsSound, IsUnder}
use Rattle.kc_possible.specs.declared.{bounds.Bounds.{Bounds}, possible.Possible.{Possible}}
use Rattle.kc_explain.specs.FactTexts.{fixed_text, location_text}
use Rattle.kc_explain.specs.FactTexts as told
use Rattle.kc_explain.specs.FactViews.{FactView, fact_in, given_by_default}
use Rattle.kc_explain.specs.Fixed as spec
use Rattle.kc_explain.specs.FixedViews.{AddsFixed, Always, AreFixed, HasValue, IsAlways, IsFixed, IsFixedDefault, line_value}
use Rattle.kc_explain.specs.declared.fact.Fact.{Fact}
use Rattle.kc_explain.specs.declared.teller.Teller.{Teller}
use Rattle.kc_explain.proofs.PlacedFacts.{In, IsPlaced, are_placed, of_all, raised_in}
use Rattle.kc_explain.proofs.SymbolLemmas.{asked-as}

-- what has one value between the bounds has it under every input
pub always_only : (p : Possible) (b : Bounds) (worth : (SymId → SymbolValue) → Tri) (t : Tri) → IsSound p → Covers p b worth → ((u : Tri) → IsWithin b u → u ≡ t) →
    IsAlways p.laid.tree.now worth t
always_only p b worth t sound covers only input V under =
    let known : SymId → SymbolValue = known_from p.laid.tree.now V in
    only (worth known) (covers known (sound (place_at input.places) V under))

-- what is so wherever the symbols may have their values is so under every input
pub always_so : (p : Possible) (So : (SymId → SymbolValue) → Type 0) → IsSound p → ((known : SymId → SymbolValue) → Allows p known → So known) → Always p.laid.tree.now So
always_so p So sound so input V under = so (known_from p.laid.tree.now V) (sound (place_at input.places) V under)

-- the solution of the tree is one of the values that the symbols may have
pub solution_allowed : (p : Possible) (solution : Solution) → IsSound p → p.laid.tree.now ≡ solution.tree → IsSolution solution → Allows p (known solution)
solution_allowed p solution sound e is =
    subst (λ (r : TreeFacts). Allows p (known_from r (value_of solution))) e
    (sound (place_at solution.places) (value_of solution)
    (subst (λ (r : TreeFacts). IsUnder r (place_at solution.places) (value_of solution)) (sym e) is.solves))

-- ---- defaults
module _ (p : Possible) (s : SymId) (kind : SymbolType) (t : Tri) (solution : Solution) (sound : IsSound p) (mine : Allows p (known solution)) (e : p.laid.tree.now ≡ solution.tree) where
  abbrev tree_of : TreeFacts
  tree_of = p.laid.tree.now

  pub fixed_default : (d : StatedDefault) (counts : Bool) → ((known : SymId → SymbolValue) → Allows p known → HasValue tree_of known s d.when t) →
      (counts ≡ true → (a b : SymId → SymbolValue) → Allows p a → Allows p b → rules.default_given tree_of a kind d.value ≡ rules.default_given tree_of b kind d.value) →
      IsFixedDefault tree_of s kind d t (given_by_default solution counts kind d)
  fixed_default d true has same = λ input V under.
      let k = known_from tree_of V in
      let allows = sound (place_at input.places) V under in (
        has k allows,
        subst (λ (r : TreeFacts). rules.default_given tree_of k kind d.value ≡ rules.default_given r (known solution) kind d.value) e
            (same refl k (known solution) allows mine),
      )
  fixed_default d false has same = λ input V under. (has (known_from tree_of V) (sound (place_at input.places) V under), tt)

-- ---- lists that grow
abbrev Kept : TreeFacts → SymId → List FactView → FactView → List FactView → Type 0
Kept tree s some fact all = (rest : List FactView) × (some ≡ fact ∷ rest) × IsFixed tree s fact × AreFixed tree s rest all

fixed-more : (tree : TreeFacts) (s : SymId) (some all more others : List FactView) → AreFixed tree s some all → AreFixed tree s more others →
    AreFixed tree s (some ++ more) (all ++ others)
fixed-more tree s some [] more others h k = subst (λ xs. AreFixed tree s (xs ++ more) others) (sym h) k
fixed-more tree s some (f ∷ all) more others h k = by (λ xs l. fixed-more tree s xs all more others l k) h
  where
    by : ((xs : List FactView) → AreFixed tree s xs all → AreFixed tree s (xs ++ more) (all ++ others)) → AreFixed tree s some all ⊎ Kept tree s some f all →
        AreFixed tree s (some ++ more) (all ++ others) ⊎ Kept tree s (some ++ more) f (all ++ others)
    by rec (inl l) = inl (rec some l)
    by rec (inr l) = inr (l.0 ++ more, ap (λ r. r ++ more) l.1, l.2, rec l.0 l.3)

module _ (t : Teller) (tree : TreeFacts) (s : SymId) (lead : List ℕ) where
  abbrev lines : List FactView → List ℕ
  lines facts = flat_map (fixed_text t.is_raw t.solved.now.tree lead) facts

  pub adds_nothing : (text : List ℕ) → AddsFixed t tree s lead [] text text
  adds_nothing text = record { facts = []; are_fixed = refl; added = sym (append-nil text) }

  -- a fact that is added, and one that is not
  pub adds_one : (fact : FactView) (old new : List ℕ) → IsFixed tree s fact → new ≡ old ++ fixed_text t.is_raw t.solved.now.tree lead fact → AddsFixed t tree s lead (fact ∷ []) old new
  adds_one fact old new h e = record {
    facts = fact ∷ [];
    are_fixed = inr ([], refl, h, refl);
    added = e ∙ ap (λ r. old ++ r) (sym (append-nil (fixed_text t.is_raw t.solved.now.tree lead fact)));
  }

  pub adds_none : (fact : FactView) (old new : List ℕ) → new ≡ old → AddsFixed t tree s lead (fact ∷ []) old new
  adds_none fact old new e = record { facts = []; are_fixed = inl refl; added = e ∙ sym (append-nil old) }

  pub adds_more : (all others : List FactView) (a b c : List ℕ) → AddsFixed t tree s lead all a b → AddsFixed t tree s lead others b c → AddsFixed t tree s lead (all ++ others) a c
  adds_more all others a b c x y = record {
    facts = x.facts ++ y.facts;
    are_fixed = fixed-more tree s x.facts all y.facts others x.are_fixed y.are_fixed;
    added = y.added ∙ ap (λ r. r ++ lines y.facts) x.added ∙ append_assoc a (lines x.facts) (lines y.facts)
        ∙ ap (λ r. a ++ r) (sym (flat_map-append (fixed_text t.is_raw t.solved.now.tree lead) x.facts y.facts));
  }

  -- one fact more of a list, and all
  pub adds_next : (see : Fact → FactView) (facts : List Fact) (i : ℕ) (x : Fact) (a b c : List ℕ) → i < length facts → x ≡ get_or facts i x →
      AddsFixed t tree s lead (map see (take i facts)) a b → AddsFixed t tree s lead (see x ∷ []) b c → AddsFixed t tree s lead (map see (take (i + 1) facts)) a c
  adds_next see facts i x a b c within is first more =
      let next : take (i + 1) facts ≡ take i facts ++ x ∷ [] = take_more facts i x within ∙ ap (λ y. take i facts ++ y ∷ []) (sym is) in
      subst (λ all. AddsFixed t tree s lead all a c) (sym (ap (map see) next ∙ map-append see (take i facts) (x ∷ [])))
      (adds_more (map see (take i facts)) (see x ∷ []) a b c first more)

  pub adds_all : (see : Fact → FactView) (facts : List Fact) (i : ℕ) (a b : List ℕ) → length facts ≤ i → AddsFixed t tree s lead (map see (take i facts)) a b →
      AddsFixed t tree s lead (map see facts) a b
  adds_all see facts i a b past adds = subst (λ (xs : List Fact). AddsFixed t tree s lead (map see xs) a b) (take_all i facts past) adds

-- ---- facts of the chapter Explanations
module _ (tree : TreeFacts) (input : UserInput) (known : SymId → SymbolValue) (s : SymId) where
  abbrev ss : List Numbered
  ss = statements tree.lines

  abbrev Placed : rules.Fact → Type 0
  Placed = IsPlaced ss tree input known s

  fixed-in : (f : rules.Fact) → Placed f → IsFixed tree s (fact_in tree.lines f) → spec.IsFixed tree f
  fixed-in (rules.PartIs p t) m h = λ at V under. h at V under
  fixed-in (rules.ModulesAre n t) m h = λ at V under. h at V under
  fixed-in (rules.DefaultIs kind d t given) m h = λ at V under.
      let so = h at V under in
      (of_all (λ i. line_value tree (known_from tree V) i (d.what).when ≡ t) d.entry (definitions_of ss s) m so.0, so.1)
  fixed-in (rules.RaisedBy word r t u) m h = λ at V under.
      let so = h at V under in
      let there = of_all (λ (q : SymId × rules.Said (Option Form)). In (q.1).entry (definitions_of ss q.0)) r (rules.raising_lines ss word s) m (raised_in ss word s) in
      (so.0, of_all (λ i. lesser (truth_of_value (known_from tree V r.0)) (line_value tree (known_from tree V) i (r.1).what) ≡ u) (r.1).entry (definitions_of ss r.0) there so.1)
  fixed-in (rules.NotRaised word rs) m h = λ at V under.
      let Unraised : SymId × rules.Said (Option Form) → Type 0 = λ r. rules.raised_to ss tree (known_from tree V) r ≡ N in
      All-from_recursion Unraised rs
      (changed (λ r. In r (rules.raising_lines ss word s)) Unraised rs (λ r there. of_all Unraised r (rules.raising_lines ss word s) there (h at V under)) m)
  fixed-in (rules.UserGave at place given) m h = absurd h
  fixed-in (rules.NotAllowed t line) m h = absurd h
  fixed-in (rules.RangeIs kind r t bounds) m h = absurd h
  fixed-in (rules.DependencyIs i t) m h = absurd h
  fixed-in (rules.PromptIs p t) m h = absurd h
  fixed-in (rules.ModeIs j k t) m h = absurd h
  fixed-in (rules.MemberIs n t) m h = absurd h
  fixed-in (rules.MemberDefaultIs d t u) m h = absurd h

  -- some facts of the chapter, as these
  abbrev Chosen : List FactView → List rules.Fact → Type 0
  Chosen some all = (facts : List rules.Fact) × spec.AreFixed tree facts all × (some ≡ map (fact_in tree.lines) facts)

  all-in : (some : List FactView) (all : List rules.Fact) → AllByRecursion Placed all → AreFixed tree s some (map (fact_in tree.lines) all) → Chosen some all
  all-in some [] m h = ([], refl, h)
  all-in some (f ∷ all) m h = by (λ xs l. all-in xs all m.1 l) h
    where
      by : ((xs : List FactView) → AreFixed tree s xs (map (fact_in tree.lines) all) → Chosen xs all) →
          AreFixed tree s some (map (fact_in tree.lines) all) ⊎ Kept tree s some (fact_in tree.lines f) (map (fact_in tree.lines) all) → Chosen some (f ∷ all)
      by rec (inl l) = let r = rec some l in (r.0, inl r.1, r.2)
      by rec (inr l) = let r = rec l.0 l.3 in (f ∷ r.0, inr (r.0, refl, fixed-in f m.0 l.2, r.1), l.1 ∙ ap (λ xs. fact_in tree.lines f ∷ xs) r.2)

module _ (is_raw : Bool) (tree : TreeFacts) where
  words-in : (f : rules.Fact) → told.fixed_words is_raw tree (fact_in tree.lines f) ≡ spec.fixed_words is_raw tree f
  words-in (rules.PartIs p t) = ap (λ r. location_text (slice_get tree.lines p.at) ++ r ++ rules.ending t) (asked-as is_raw tree p.at p.asks)
  words-in (rules.UserGave at place given) = refl
  words-in (rules.NotAllowed s line) = refl
  words-in (rules.DependencyIs i t) = refl
  words-in (rules.PromptIs p t) = refl
  words-in (rules.DefaultIs kind d t given) = refl
  words-in (rules.RangeIs kind r t bounds) = refl
  words-in (rules.RaisedBy word r t u) = refl
  words-in (rules.NotRaised word rs) = refl
  words-in (rules.ModulesAre m t) = refl
  words-in (rules.ModeIs j k t) = refl
  words-in (rules.MemberIs m t) = refl
  words-in (rules.MemberDefaultIs d t u) = refl

  lines-in : (lead : List ℕ) (facts : List rules.Fact) → flat_map (fixed_text is_raw tree lead) (map (fact_in tree.lines) facts) ≡ spec.fixed_lines is_raw tree lead facts
  lines-in lead facts =
      flat-map (fixed_text is_raw tree lead) (fact_in tree.lines) facts
      ∙ flat-each (λ f. fixed_text is_raw tree lead (fact_in tree.lines f)) (λ f. lead ++ spec.fixed_words is_raw tree f ++ codes "\n") (λ f. ap (λ w. lead ++ w ++ codes "\n") (words-in f)) facts
      ∙ sym (flat-map (λ l. lead ++ l ++ codes "\n") (spec.fixed_words is_raw tree) facts)

-- the lines of facts of the chapter are added
pub adds_facts : (t : Teller) (tree : TreeFacts) (lead : List ℕ) (s : SymId) (all : List FactView) (old new : List ℕ) → tree ≡ t.solved.now.tree →
    all ≡ map (fact_in t.solved.now.tree.lines) (rules.facts_in t.input.now t.solved.now s) → AddsFixed t tree s lead all old new →
    (facts : List rules.Fact) × spec.AreFixedOf t.input.now t.solved.now s facts × (new ≡ old ++ spec.fixed_lines t.is_raw t.solved.now.tree lead facts)
adds_facts t tree lead s all old new e f adds =
    let mine : AreFixed t.solved.now.tree s adds.facts (map (fact_in t.solved.now.tree.lines) (rules.facts_in t.input.now t.solved.now s)) =
    subst (AreFixed t.solved.now.tree s adds.facts) f (subst (λ (r : TreeFacts). AreFixed r s adds.facts all) e adds.are_fixed) in
    let placed = are_placed (statements t.solved.now.tree.lines) t.solved.now.tree t.input.now (known t.solved.now) s in
    let found = all-in t.solved.now.tree t.input.now (known t.solved.now) s adds.facts (rules.facts_in t.input.now t.solved.now s) placed mine in
    (found.0, found.1, adds.added ∙ ap (λ r. old ++ flat_map (fixed_text t.is_raw t.solved.now.tree lead) r) found.2 ∙ ap (λ r. old ++ r) (lines-in t.is_raw t.solved.now.tree lead found.0))
