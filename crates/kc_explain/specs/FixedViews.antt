-- For proofs: What no line can change, without its layout in memory.
use Rattle.std.specs.List.{AllByRecursion, flat_map}
use Rattle.std.specs.Prelude.{IfSome, List, Option, [], ℕ, ◌++◌, ◌∷◌, ◌≡◌, ◌⊎◌}
use Rattle.kc_language.specs.{ConfigFile.{UserInput, place_at}, Expressions.{Form, SymbolValue, lesser, truth_of_value, value}, Statements.statements, Symbols.{StatedDefault, TreeFacts, definitions_of, dependency}, Values.{GivenValue, choice_at, condition, known_from, mode_of}}
use Rattle.kc_language.specs.declared.{expressions.{SymId.SymId, SymbolType.SymbolType, Tri.{TheVariants.{N}, Tri}}, symbols.SelectOrImply.SelectOrImply}
use Rattle.kc_outcome.specs.Explanations as rules
use Rattle.kc_tree.specs.Layouts.{with_when}
use Rattle.kc_possible.specs.Possible.{IsUnder}
use Rattle.kc_explain.specs.FactTexts.{fixed_text}
use Rattle.kc_explain.specs.FactViews.{DefaultIs, FactView, ModulesAre, NotRaised, PartIs, RaisedBy}
use Rattle.kc_explain.specs.declared.teller.Teller.{Teller}

-- the value of a part of a condition where the symbols have these values
abbrev pub asked_under : TreeFacts → rules.Asked → (SymId → SymbolValue) → Tri
asked_under tree asks known = elim asks [ rules.Worth e ↦ value known tree.modules e | rules.ModeOf k ↦ mode_of tree known (choice_at tree k) ]

-- it has this value under every input
abbrev pub IsAlways : TreeFacts → ((SymId → SymbolValue) → Tri) → Tri → Type 0
IsAlways tree worth t = (input : UserInput) (V : ℕ → SymbolValue) → IsUnder tree (place_at input.places) V → worth (known_from tree V) ≡ t

-- this is so under every input
abbrev pub Always : TreeFacts → ((SymId → SymbolValue) → Type 0) → Type 0
Always tree So = (input : UserInput) (V : ℕ → SymbolValue) → IsUnder tree (place_at input.places) V → So (known_from tree V)

module _ (tree : TreeFacts) (known : SymId → SymbolValue) where
  -- a line with this condition has the value in each definition of the symbol; the same of lines that raise by the symbol
  abbrev pub line_value : ℕ → Option Form → Tri
  line_value i w = condition tree known (with_when (dependency (statements tree.lines) i) w)

  abbrev pub HasValue : SymId → Option Form → Tri → Type 0
  HasValue s w t = AllByRecursion (λ i. line_value i w ≡ t) (definitions_of (statements tree.lines) s)

  abbrev pub RaisesTo : SymId → Option Form → Tri → Type 0
  RaisesTo by w t = AllByRecursion (λ i. lesser (truth_of_value (known by)) (line_value i w) ≡ t) (definitions_of (statements tree.lines) by)

  -- no line raises the symbol
  abbrev pub IsUnraised : SelectOrImply → SymId → Type 0
  IsUnraised word s = AllByRecursion (λ r. rules.raised_to (statements tree.lines) tree known r ≡ N) (rules.raising_lines (statements tree.lines) word s)

module _ (tree : TreeFacts) (s : SymId) where
  -- the condition of a default of the symbol, and what it gives, are these under every input
  abbrev pub IsFixedDefault : SymbolType → StatedDefault → Tri → Option GivenValue → Type 0
  IsFixedDefault kind d t given = Always tree (λ known. HasValue tree known s d.when t × IfSome given (λ g. rules.default_given tree known kind d.value ≡ g))

  -- the fact about the symbol holds under every input, and is of a kind for which that is looked at
  abbrev pub IsFixed : FactView → Type 0
  IsFixed (PartIs p t) = IsAlways tree (asked_under tree p.asks) t
  IsFixed (ModulesAre m t) = IsAlways tree (λ known. truth_of_value (known m)) t
  IsFixed (DefaultIs kind d t given) = IsFixedDefault kind d.what t given
  IsFixed (RaisedBy word by l t u) = Always tree (λ known. (truth_of_value (known by) ≡ t) × RaisesTo tree known by l.what u)
  IsFixed (NotRaised word n) = Always tree (λ known. IsUnraised tree known word s)
  IsFixed _ = ⊥

  -- some of these facts, in the same order, each of which is fixed
  abbrev pub AreFixed : List FactView → List FactView → Type 0
  AreFixed some [] = some ≡ []
  AreFixed some (fact ∷ all) = AreFixed some all ⊎ ((rest : List FactView) × (some ≡ fact ∷ rest) × IsFixed fact × AreFixed rest all)

-- the lines of such facts, of these, are added
pub record AddsFixed (t : Teller) (tree : TreeFacts) (s : SymId) (lead : List ℕ) (all : List FactView) (old new : List ℕ) : Type 0 where
  pub facts : List FactView
  pub are_fixed : AreFixed tree s facts all
  pub added : new ≡ old ++ flat_map (fixed_text t.is_raw t.solved.now.tree lead) facts
