-- The first default whose condition is not n, among all the defaults.
use Rattle.std.proofs.Common.{Bool, List, None, Option, Some, [], ap, cond, false, find, get_or, length, map, not, refl, suc, sym, true, zero, ℕ, ◌++◌, ◌+◌, ◌<◌, ◌∙◌, ◌∷◌, ◌≡◌, ◌≤◌}
use Rattle.std.specs.List.{filter_map, flat_map, slice_get}
use Rattle.kc_language.specs.{Expressions.{Form, SymbolValue, greater, greatest}, Symbols.{Guarded, StatedDefault, TreeFacts, stated_default}, Values.{above, condition, default_value, first_met, is_n}, declared.expressions.{SymId.SymId, Tri.Tri}}
use Rattle.kc_entries.specs.{StatementViews.attribute_view, declared.entries.AttributeLine.AttributeLine}
use Rattle.kc_tree.specs.{Layouts.{DefinitionFacts, default_view, facts_of, place_of, said_at}, declared.{layout.Layout.Layout, rows.Symbol.Symbol}}
use Rattle.kc_possible.specs.PartsOfPossible.{greatest_default}
use Rattle.kc_values.proofs.SaidFrom.{said-end, said-next, said_from}
use Rattle.kc_possible.proofs.{DefinitionWalks.{IsWalk, all-left, definitions_left, facts_at, next-is, walk-begins}, TruthLemmas.{above-left, above-right, above-trans}}

-- ---- What they are worth
module _ (tree : TreeFacts) (known : SymId → SymbolValue) where
  abbrev worth : Option (Guarded Form) → Tri
  worth o = default_value tree known o

  abbrev all : List (Guarded Form) → Tri
  all gs = greatest_default tree known gs

  met-by : (b : Bool) (g : Guarded Form) (gs : List (Guarded Form)) → above (worth (first_met tree known gs)) (all gs) ≡ false →
      above (worth (cond (not b) (Some g) (first_met tree known gs))) (greater (worth (Some g)) (all gs)) ≡ false
  met-by false g gs h = above-left (worth (Some g)) (all gs)
  met-by true g gs h = above-trans (worth (first_met tree known gs)) (all gs) (greater (worth (Some g)) (all gs)) h (above-right (worth (Some g)) (all gs))

  -- the first that is met is worth at most the greatest of all
  pub met-below : (gs : List (Guarded Form)) → above (worth (first_met tree known gs)) (all gs) ≡ false
  met-below [] = refl
  met-below (g ∷ gs) = met-by (is_n (condition tree known g.when)) g gs (met-below gs)

  -- a first one that is met
  pub met-first : (g : Guarded Form) (gs : List (Guarded Form)) → is_n (condition tree known g.when) ≡ false → first_met tree known (g ∷ gs) ≡ Some g
  met-first g gs h = ap (λ b. cond (not b) (Some g) (first_met tree known gs)) h

  -- ---- Those of one entry, from an attribute on
  module _ (view : StatedDefault → Guarded Form) (ls : List AttributeLine) where
    abbrev pub greatest_from : ℕ → Tri
    greatest_from i = all (map view (said_from stated_default ls i))

    pub from-line : (i : ℕ) (x : AttributeLine) (d : StatedDefault) → i < length ls → x ≡ get_or ls i x → Some d ≡ stated_default (attribute_view x.attribute) →
        greatest_from i ≡ greater (worth (Some (view d))) (greatest_from (i + 1))
    from-line i x d h at e = ap (λ r. all (map view r)) (said-next stated_default ls i x (Some d) h at (sym e))

    pub from-quiet : (i : ℕ) (x : AttributeLine) → i < length ls → x ≡ get_or ls i x → None ≡ stated_default (attribute_view x.attribute) → greatest_from i ≡ greatest_from (i + 1)
    from-quiet i x h at e = ap (λ r. all (map view r)) (said-next stated_default ls i x None h at (sym e))

    pub from-end : (i : ℕ) → length ls ≤ i → greatest_from i ≡ all []
    from-end i h = ap (λ r. all (map view r)) (said-end stated_default ls i h)

-- what is first stands first
has-first : (ds : List StatedDefault) (d : StatedDefault) → Some d ≡ find (λ d. true) ds → (rest : List StatedDefault) × (ds ≡ d ∷ rest)
has-first [] d h = absurd (let no : Some d ≡ None = h in cc)
has-first (x ∷ xs) d h = (xs, ap (λ (o : Option StatedDefault). elim o [ None ↦ x ∷ xs | Some y ↦ y ∷ xs ]) (sym h))

module _ (l : Layout) (s : SymId) where
  abbrev lines : DefinitionFacts → List (Guarded Form)
  lines d = d.defaults

  abbrev view : ℕ → StatedDefault → Guarded Form
  view at = default_view (facts_at l at).dependency

  -- of a definition that says one
  starts-with : (at : ℕ) (d : StatedDefault) → IsWalk l s at → Some d ≡ find (λ d. true) (filter_map stated_default (said_at l at)) →
      (rest : List (Guarded Form)) × (flat_map lines (definitions_left l s at) ≡ view at d ∷ rest)
  starts-with zero d w h = absurd (let no : Some d ≡ None = h in cc)
  starts-with (suc k) d w h =
      let n = next-is l s (suc k) (place_of l (suc k)).next.0 refl w refl in
      let first = has-first (filter_map stated_default (said_at l (suc k))) d h in
      let others = flat_map lines (definitions_left l s (place_of l (suc k)).next.0) in (
        map (view (suc k)) (first.0) ++ others,
        ap (flat_map lines) n.says ∙ ap (λ ds. map (view (suc k)) ds ++ others) (first.1),
      )

  -- of a symbol: the one that is met, if its condition is not n
  module _ (row : Symbol) (h : slice_get l.symbols.items s.0 ≡ Some row) where
    pub first-is-met : (tree : TreeFacts) (known : SymId → SymbolValue) (d : StatedDefault) → Some d ≡ find (λ d. true) (filter_map stated_default (said_at l row.first.0)) →
        is_n (condition tree known (view row.first.0 d).when) ≡ false → first_met tree known (facts_of l s.0 row).defaults ≡ Some (view row.first.0 d)
    first-is-met tree known d e met =
        let first = starts-with row.first.0 d (walk-begins l s row h) e in
        ap (first_met tree known) (sym (ap (flat_map lines) (all-left l s row h)) ∙ first.1)
        ∙ met-first tree known (view row.first.0 d) (first.0) met
