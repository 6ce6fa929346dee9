-- The ranges of definitions, one after another, and what counts if none of them does.
use Rattle.std.proofs.{Common.{Bool, List, None, Option, Some, [], ap, cond, false, find, get_or, length, map, not, refl, subst, sym, true, unwrap_or, ℕ, ◌++◌, ◌+◌, ◌<◌, ◌∙◌, ◌∷◌, ◌≡◌, ◌≤◌}, lemmas.{Bool.true≢false, List.Folds.find-append}}
use Rattle.std.specs.{List.{AllByRecursion, filter_map, flat_map, list_any}, Option.option_or, Prelude.{option_map, ◌||◌}}
use Rattle.kc_entries.specs.{StatementViews.attribute_view, declared.entries.AttributeLine.AttributeLine}
use Rattle.kc_language.specs.{Expressions.{Form, SymbolValue, greater, lesser}, Statements.InputPrompt, Symbols.{Bounds, Condition, Guarded, StatedDefault, TreeFacts, listed, range_in, stated_default}, Values.{and_value, condition, conditions, first_met, is_n}, declared.expressions.{SymId.SymId, SymbolType.SymbolType, Tri.{TheVariants.{N, Y}, Tri}}}
use Rattle.kc_tree.specs.{Layouts.{DefinitionFacts, default_view, place_of, prompt_in, prompt_view, prompt_when, range_view, said_at, visible_at, with_when}, declared.layout.Layout.Layout}
use Rattle.kc_values.specs.Computed.{when_value}
use Rattle.kc_values.proofs.{ConditionLemmas.{condition-prompt, condition-with_when}, SaidFrom.{said-end, said-next, said_from}, TriLemmas.lesser_y}
use Rattle.kc_possible.specs.Ranges.{IsBounded, IsExcluded, interval, is_outside, is_plain}
use Rattle.kc_possible.proofs.{DefinitionWalks.{IsNext, definitions_left, facts_at, prompts-next, prompts_of}, TruthLemmas.is-n}

-- ---- Those of one entry, from an attribute on
module _ (ls : List AttributeLine) where
  abbrev pub ranges_from : ℕ → List (Bounds × Option Form)
  ranges_from i = said_from range_in ls i

  module _ (P : Bounds × Option Form → Type 0) (i : ℕ) where
    pub all-line : (x : AttributeLine) (r : Bounds × Option Form) → i < length ls → x ≡ get_or ls i x → Some r ≡ range_in (attribute_view x.attribute) → P r →
        AllByRecursion P (ranges_from (i + 1)) → AllByRecursion P (ranges_from i)
    all-line x r h at e here rest = subst (λ rs. AllByRecursion P rs) (sym (said-next range_in ls i x (Some r) h at (sym e))) (here, rest)

    pub all-quiet : (x : AttributeLine) → i < length ls → x ≡ get_or ls i x → None ≡ range_in (attribute_view x.attribute) → AllByRecursion P (ranges_from (i + 1)) → AllByRecursion P (ranges_from i)
    all-quiet x h at e rest = subst (λ rs. AllByRecursion P rs) (sym (said-next range_in ls i x None h at (sym e))) rest

    pub all-end : length ls ≤ i → AllByRecursion P (ranges_from i)
    all-end h = subst (λ rs. AllByRecursion P rs) (sym (said-end range_in ls i h)) tt

  module _ (i : ℕ) where
    pub plain-line : (x : AttributeLine) (r : Bounds × Option Form) (b : Bool) → i < length ls → x ≡ get_or ls i x → Some r ≡ range_in (attribute_view x.attribute) → is_plain r ≡ b →
        list_any is_plain (ranges_from i) ≡ (b || list_any is_plain (ranges_from (i + 1)))
    plain-line x r b h at e is = ap (list_any is_plain) (said-next range_in ls i x (Some r) h at (sym e)) ∙ ap (λ a. a || list_any is_plain (ranges_from (i + 1))) is

    pub plain-quiet : (x : AttributeLine) → i < length ls → x ≡ get_or ls i x → None ≡ range_in (attribute_view x.attribute) → list_any is_plain (ranges_from i) ≡ list_any is_plain (ranges_from (i + 1))
    plain-quiet x h at e = ap (list_any is_plain) (said-next range_in ls i x None h at (sym e))

    pub plain-end : length ls ≤ i → list_any is_plain (ranges_from i) ≡ false
    plain-end h = ap (list_any is_plain) (said-end range_in ls i h)

-- ---- The first of two lists
module _ {X : Type 0} where
  either-first : (P : X → Type 0) (a b : Option X) → ((g : X) → a ≡ Some g → P g) → ((g : X) → b ≡ Some g → P g) → (g : X) → option_or a b ≡ Some g → P g
  either-first P None b h k g e = k g e
  either-first P (Some x) b h k g e = h g e

  neither-first : (a b : Option X) → option_or a b ≡ None → (a ≡ None) × (b ≡ None)
  neither-first None b e = (refl, e)
  neither-first (Some x) b e = absurd (let no : Some x ≡ None = e in cc)

  not-found : (b : Bool) (x : X) (r : Option X) → cond (not b) (Some x) r ≡ None → (b ≡ true) × (r ≡ None)
  not-found true x r e = (refl, e)
  not-found false x r e = absurd (let no : Some x ≡ None = e in cc)

module _ (tree : TreeFacts) (known : SymId → SymbolValue) where
  abbrev worth : Condition → Tri
  worth c = condition tree known c

  -- ---- Lines under one dependency
  module _ (dep : Condition) where
    abbrev ranges : List (Bounds × Option Form) → List (Guarded Bounds)
    ranges rs = map (range_view dep) rs

    found-outside : (k : SymbolType) (t : List ℕ) (rs : List (Bounds × Option Form)) → AllByRecursion (IsExcluded known k t) rs →
        (g : Guarded Bounds) → first_met tree known (ranges rs) ≡ Some g → is_outside k t (interval known k g.what) ≡ true
    found-outside k t [] all g e = absurd (let no : None ≡ Some g = e in cc)
    found-outside k t (r ∷ rs) all g e = by (found-outside k t rs all.1 g) (is_n (worth (with_when dep (r.1)))) e
      where
        by : (first_met tree known (ranges rs) ≡ Some g → is_outside k t (interval known k g.what) ≡ true) → (b : Bool) →
            cond (not b) (Some (range_view dep r)) (first_met tree known (ranges rs)) ≡ Some g → is_outside k t (interval known k g.what) ≡ true
        by later true q = later q
        by later false q =
            let same : Some (range_view dep r) ≡ Some g = q in
            subst (λ (h : Guarded Bounds). is_outside k t (interval known k h.what) ≡ true) (ap (λ o. unwrap_or o (range_view dep r)) same) (all.0)

    -- if none counts, the dependency of one without an `if` is n
    none-met : (rs : List (Bounds × Option Form)) → list_any is_plain rs ≡ true → first_met tree known (ranges rs) ≡ None → worth dep ≡ N
    none-met [] plain e = absurd (true≢false (sym plain))
    none-met ((b, None) ∷ rs) plain e =
        let off = (not-found (is_n (worth (with_when dep None))) (range_view dep (b, None)) (first_met tree known (ranges rs)) e).0 in
        sym (condition-with_when tree known dep None ∙ lesser_y (worth dep)) ∙ is-n (worth (with_when dep None)) off
    none-met ((b, Some f) ∷ rs) plain e =
        none-met rs plain ((not-found (is_n (worth (with_when dep (Some f)))) (range_view dep (b, Some f)) (first_met tree known (ranges rs)) e).1)

    -- and then no other line of its definition counts
    module _ (off : worth dep ≡ N) where
      no-default : (ds : List StatedDefault) → first_met tree known (map (default_view dep) ds) ≡ None
      no-default [] = refl
      no-default (d ∷ ds) =
          ap (λ t. cond (not (is_n t)) (Some (default_view dep d)) (first_met tree known (map (default_view dep) ds)))
          (condition-with_when tree known dep d.when ∙ ap (λ t. lesser t (when_value tree known d.when)) off)
          ∙ no-default ds

      no-prompt : (visible : List Form) (o : Option (InputPrompt Form)) → conditions tree known (listed (option_map (prompt_view dep visible) o)) ≡ N
      no-prompt visible None = refl
      no-prompt visible (Some q) =
          ap (λ t. greater t N) (condition-prompt tree known dep visible q ∙ ap (λ t. lesser (lesser t (and_value tree known visible)) (when_value tree known q.when)) off)

  -- ---- Definitions
  module _ (l : Layout) (s : SymId) (k : SymbolType) (t : List ℕ) where
    abbrev pub Bounded : List DefinitionFacts → Type 0
    Bounded ds = IsBounded tree known k t ds

    -- none is bounded
    pub bounded-none : Bounded []
    bounded-none = record { outside = λ g e. absurd (let no : None ≡ Some g = e in cc); silent = λ e. (refl, refl) }

    met-append : {X : Type 0} (xs ys : List (Guarded X)) → first_met tree known (xs ++ ys) ≡ option_or (first_met tree known xs) (first_met tree known ys)
    met-append {X} xs ys = find-append (λ (g : Guarded X). not (is_n (worth g.when))) xs ys

    -- one more definition
    pub bounded-next : (at next : ℕ) → IsNext l s at next → list_any is_plain (filter_map range_in (said_at l at)) ≡ true → AllByRecursion (IsExcluded known k t) (filter_map range_in (said_at l at)) →
        Bounded (definitions_left l s next) → Bounded (definitions_left l s at)
    bounded-next at next n plain all rest =
        let dep = (facts_at l at).dependency in
        let rs = filter_map range_in (said_at l at) in
        let ds = definitions_left l s next in
        let own : Option (Guarded Bounds) = first_met tree known (map (range_view dep) rs) in
        let others : Option (Guarded Bounds) = first_met tree known (flat_map (λ (d : DefinitionFacts). d.ranges) ds) in
        let split : first_met tree known (flat_map (λ (d : DefinitionFacts). d.ranges) (definitions_left l s at)) ≡ option_or own others =
        ap (λ x. first_met tree known (flat_map (λ (d : DefinitionFacts). d.ranges) x)) n.says
        ∙ met-append (map (range_view dep) rs) (flat_map (λ (d : DefinitionFacts). d.ranges) ds) in
        record {
          outside = λ g e. either-first (λ (h : Guarded Bounds). is_outside k t (interval known k h.what) ≡ true) own others (found-outside dep k t rs all) rest.outside g (sym split ∙ e);
          silent = λ e.
              let (one, more) = neither-first own others (sym split ∙ e) in
              let off = none-met dep rs plain one in
              let quiet = rest.silent more in (
                prompts-next l s tree known at next n
                    ∙ ap (λ x. greater x (prompts_of l s tree known ds)) (no-prompt dep off (visible_at l (place_of l at).visible.0) (prompt_in l (place_of l at)))
                    ∙ quiet.0,
                ap (λ x. first_met tree known (flat_map (λ (d : DefinitionFacts). d.defaults) x)) n.says
                    ∙ met-append (map (default_view dep) (filter_map stated_default (said_at l at))) (flat_map (λ (d : DefinitionFacts). d.defaults) ds)
                    ∙ ap (λ x. option_or x (first_met tree known (flat_map (λ (d : DefinitionFacts). d.defaults) ds))) (no-default dep off (filter_map stated_default (said_at l at)))
                    ∙ quiet.1,
              );
        }
