-- For proofs: What the lines of a symbol are worth under every input.
use Rattle.std.proofs.Common.{◌≡◌, ℕ, List, [], ◌∷◌, Bool, true, false, Option, Some, map, refl, ap, sym, subst, ◌∙◌}
use Rattle.std.specs.Borrow.{Bor}
use Rattle.std.specs.List.{AllByRecursion, flat_map}
use Rattle.std.specs.Prelude.{if◌then◌else◌}
use Rattle.kc_language.specs.{Expressions.{Form, SymbolValue, greater, greatest, lesser, truth_of_value}, Statements.{Numbered, statements}, Symbols.{Condition, Guarded, SymbolFacts, TreeFacts, can_be_target, definitions_of, dependency, indices, naming_at, symbol_facts, targets}, Values.{condition, is_n, modules_value, selector_values, upgrade, upgraded}}
use Rattle.kc_language.specs.declared.{expressions.{SymId.SymId, SymbolType.{SymbolType, TheVariants.{Bool as IsBool, Hex, Int, Str, Tristate, Undefined}}, Tri.{TheVariants.{M, N, Y}, Tri}}, symbols.SelectOrImply.SelectOrImply}
use Rattle.kc_language.specs.declared.symbols.SelectOrImply.TheVariants as word
use Rattle.kc_outcome.specs.Explanations as rules
use Rattle.kc_outcome.proofs.FactLists.{changed, of_map}
use Rattle.kc_outcome.proofs.SaidLines.{guard_raise, naming_are}
use Rattle.kc_outcome.proofs.SameWords.{mapped_to}
use Rattle.kc_tree.specs.Layouts.{DefinitionFacts, statements_in, with_when}
use Rattle.kc_tree.specs.declared.rows.Symbol.{Symbol}
use Rattle.kc_tree.proofs.LayoutLemmas.{facts-are}
use Rattle.kc_possible.specs.PartsOfPossible.{IsRowOf, facts_in}
use Rattle.kc_possible.specs.Ranges.{all_definitions}
use Rattle.kc_possible.specs.declared.possible.Possible.{Possible}
use Rattle.kc_explain.specs.FixedViews.{HasValue, IsUnraised, RaisesTo, line_value}

-- ---- what is raised to n
upgrade-n : (t : Tri) → upgrade t ≡ N → t ≡ N
upgrade-n N e = refl
upgrade-n M e = absurd cc
upgrade-n Y e = absurd cc

upgraded-n : (tree : TreeFacts) (known : SymId → SymbolValue) (k : SymbolType) (t : Tri) → upgraded tree known k t ≡ N → t ≡ N
upgraded-n tree known Undefined t e = upgrade-n t e
upgraded-n tree known IsBool t e = upgrade-n t e
upgraded-n tree known Tristate t e = by (is_n (modules_value known tree.modules)) e
  where
    by : (b : Bool) → (if b then upgrade t else t) ≡ N → t ≡ N
    by true q = upgrade-n t q
    by false q = q
upgraded-n tree known Str t e = upgrade-n t e
upgraded-n tree known Int t e = upgrade-n t e
upgraded-n tree known Hex t e = upgrade-n t e

greater-n : (a b : Tri) → greater a b ≡ N → (a ≡ N) × (b ≡ N)
greater-n N b e = (refl, e)
greater-n M N e = absurd cc
greater-n M M e = absurd cc
greater-n M Y e = absurd cc
greater-n Y b e = absurd cc

all-n : {X : Type 0} (f : X → Tri) (xs : List X) → greatest (map f xs) ≡ N → AllByRecursion (λ x. f x ≡ N) xs
all-n f [] e = tt
all-n f (x ∷ xs) e = let both = greater-n (f x) (greatest (map f xs)) e in (both.0, all-n f xs both.1)

module _ (ss : List Numbered) (tree : TreeFacts) (known : SymId → SymbolValue) where
  abbrev given : Guarded SymId → Tri
  given g = lesser (truth_of_value (known g.what)) (condition tree known g.when)

  raised : (read : Numbered → Option (Option Form)) (b : Bool) → selector_values tree known (if b then flat_map (naming_at ss read) (indices ss) else []) ≡ N →
      AllByRecursion (λ r. rules.raised_to ss tree known r ≡ N) (if b then flat_map (rules.lines_naming ss read) (indices ss) else [])
  raised read false e = tt
  raised read true e =
      let rs = flat_map (rules.lines_naming ss read) (indices ss) in
      of_map (λ (g : Guarded SymId). given g ≡ N) (guard_raise ss) rs
      (all-n given (map (guard_raise ss) rs) (ap (λ gs. greatest (map given gs)) (sym (naming_are ss read (indices ss))) ∙ e))

-- ---- in the tree of the bounds
module _ (p : Possible) (s : SymId) (row : Symbol) (h : IsRowOf p s row) where
  abbrev tree_of : TreeFacts
  tree_of = p.laid.tree.now

  abbrev said : List Numbered
  said = statements tree_of.lines

  -- the facts of the symbol are those that its lines say
  facts_said : symbol_facts said s ≡ facts_in p s row
  facts_said = ap (λ ls. symbol_facts (statements ls) s) p.laid.laid.lines ∙ facts-are p.laid.layout.now s.0 row h

  module _ (known : SymId → SymbolValue) where
    pub in_each : (w : Option Form) (t : Tri) → AllByRecursion (λ (d : DefinitionFacts). condition tree_of known (with_when d.dependency w) ≡ t) (all_definitions p s) →
        HasValue tree_of known s w t
    in_each w t all =
        let So : Condition → Type 0 = λ c. condition tree_of known (with_when c w) ≡ t in
        of_map So (dependency said) (definitions_of said s)
        (subst (λ (f : SymbolFacts). AllByRecursion So f.dependencies) (sym facts_said)
        (mapped_to So (λ (d : DefinitionFacts). d.dependency) (all_definitions p s) all))

    pub none_selects : upgraded tree_of known row.symbol_type (selector_values tree_of known (facts_in p s row).selectors) ≡ N → IsUnraised tree_of known word.Select s
    none_selects e =
        raised said tree_of known (targets word.Select s) (can_be_target said s)
        (ap (λ (f : SymbolFacts). selector_values tree_of known f.selectors) facts_said ∙ upgraded-n tree_of known row.symbol_type _ e)

    pub none_implies : upgraded tree_of known row.symbol_type (selector_values tree_of known (facts_in p s row).impliers) ≡ N → IsUnraised tree_of known word.Imply s
    none_implies e =
        raised said tree_of known (targets word.Imply s) (can_be_target said s)
        (ap (λ (f : SymbolFacts). selector_values tree_of known f.impliers) facts_said ∙ upgraded-n tree_of known row.symbol_type _ e)

-- a symbol that is y and its line that is y
pub raises_y : (tree : TreeFacts) (known : SymId → SymbolValue) (by : SymId) (w : Option Form) → truth_of_value (known by) ≡ Y → HasValue tree known by w Y → RaisesTo tree known by w Y
raises_y tree known by w is all =
    changed (λ i. line_value tree known i w ≡ Y) (λ i. lesser (truth_of_value (known by)) (line_value tree known i w) ≡ Y) (definitions_of (statements tree.lines) by)
    (λ i e. (λ j. lesser (is j) (e j))) all

-- ---- the walk over the definitions
pub each-next : (So : DefinitionFacts → Type 0) (ds next : List DefinitionFacts) (d : DefinitionFacts) → ds ≡ d ∷ next → So d → AllByRecursion So next → AllByRecursion So ds
each-next So ds next d says here rest = subst (AllByRecursion So) (sym says) (here, rest)

pub each-end : (So : DefinitionFacts → Type 0) (ds : List DefinitionFacts) → ds ≡ [] → AllByRecursion So ds
each-end So ds none = subst (AllByRecursion So) (sym none) tt
