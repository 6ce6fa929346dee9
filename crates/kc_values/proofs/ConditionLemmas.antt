-- What conditions are worth that are made of others.
use Rattle.std.proofs.{Common.{List, None, Option, Some, ap, map, refl, sym, ℕ, ◌++◌, ◌∙◌, ◌≡◌}, lemmas.List.map-append}
use Rattle.kc_language.specs.{Expressions.{Form, SymbolValue, least, lesser, value}, Statements.InputPrompt, Symbols.{Condition, TreeFacts, listed}, Values.{and_value, condition}, declared.expressions.{SymId.SymId, Tri.Tri}}
use Rattle.kc_tree.specs.Layouts.{prompt_view, with_conjuncts, with_when}
use Rattle.kc_values.specs.{Computed.when_value, PartsOfValues.mode_value}
use Rattle.kc_values.proofs.TriLemmas.{least-append, lesser_assoc, lesser_comm, lesser_y}

-- the middle one goes behind
pub swapped : (a b c : Tri) → lesser (lesser a b) c ≡ lesser (lesser a c) b
swapped a b c = lesser_assoc a b c ∙ ap (lesser a) (lesser_comm b c) ∙ sym (lesser_assoc a c b)

-- one step of what is taken the least of: what is asked there, and what is asked outside
pub lesser-step : (least asked outside whole result : Tri) → whole ≡ lesser outside asked → lesser least whole ≡ result → lesser (lesser least asked) outside ≡ result
lesser-step least asked outside whole result e h =
    lesser_assoc least asked outside ∙ ap (lesser least) (lesser_comm asked outside ∙ sym e) ∙ h

module _ (tree : TreeFacts) (known : SymId → SymbolValue) where
  pub and_value-append : (ps qs : List Form) → and_value tree known (ps ++ qs) ≡ lesser (and_value tree known ps) (and_value tree known qs)
  and_value-append ps qs = ap least (map-append (value known tree.modules) ps qs) ∙ least-append (map (value known tree.modules) ps) (map (value known tree.modules) qs)

  and_value-listed : (w : Option Form) → and_value tree known (listed w) ≡ when_value tree known w
  and_value-listed None = refl
  and_value-listed (Some f) = lesser_y (value known tree.modules f)

  and_value-when : (ps : List Form) (w : Option Form) → and_value tree known (ps ++ listed w) ≡ lesser (and_value tree known ps) (when_value tree known w)
  and_value-when ps w = and_value-append ps (listed w) ∙ ap (lesser (and_value tree known ps)) (and_value-listed w)

  pub condition-with_when : (c : Condition) (w : Option Form) → condition tree known (with_when c w) ≡ lesser (condition tree known c) (when_value tree known w)
  condition-with_when c w =
      ap (λ t. lesser t (mode_value tree known c.mode)) (and_value-when c.conjuncts w)
      ∙ swapped (and_value tree known c.conjuncts) (when_value tree known w) (mode_value tree known c.mode)

  pub condition-with_conjuncts : (c : Condition) (fs : List Form) → condition tree known (with_conjuncts c fs) ≡ lesser (condition tree known c) (and_value tree known fs)
  condition-with_conjuncts c fs =
      ap (λ t. lesser t (mode_value tree known c.mode)) (and_value-append c.conjuncts fs)
      ∙ swapped (and_value tree known c.conjuncts) (and_value tree known fs) (mode_value tree known c.mode)

  -- where no mode counts
  pub condition-plain : (c : Condition) → c.mode ≡ None → condition tree known c ≡ and_value tree known c.conjuncts
  condition-plain c e = ap (λ m. lesser (and_value tree known c.conjuncts) (mode_value tree known m)) e ∙ lesser_y (and_value tree known c.conjuncts)

  pub condition-prompt : (dep : Condition) (visible : List Form) (p : InputPrompt Form) →
      condition tree known (prompt_view dep visible p) ≡ lesser (lesser (condition tree known dep) (and_value tree known visible)) (when_value tree known p.when)
  condition-prompt dep visible p =
      condition-with_when (with_conjuncts dep visible) p.when
      ∙ ap (λ t. lesser t (when_value tree known p.when)) (condition-with_conjuncts dep visible)
