-- The facts of an explanation suffice: where they hold, the parts of the equation have the values that they have in the solution.
use Rattle.std.proofs.Common.{◌≡◌, refl, ap, sym, subst, ◌∙◌, inl, inr, true, false, true≢false, ℕ}
use Rattle.std.proofs.lemmas.List.Elements.{recursion_from_All}
use Rattle.std.specs.List.{AllByRecursion, filter, flat_map}
use Rattle.std.specs.Prelude.{Bool, IfSome, List, None, Option, Some, [], if◌then◌else◌, is_some, map, not, option_map, codes, ◌&&◌, ◌||◌, ◌∷◌, ◌≡◌, ◌⊎◌, pos}
use Rattle.kc_language.specs.{ConfigFile.{UserInput, place_at, plain_line, plain_refused}, Expressions.{Form, SymbolValue, greater, greatest, lesser, text, truth_of_value, value}, Statements.{InputPrompt, Numbered}, Symbols.{targets, range_in, Bounds, Guarded, StatedDefault, SymbolFacts, TreeFacts, can_be_target, definitions_of, dependency, holds_text, indices, listed, naming_at, stated_default, symbol_facts}, Text.{natural_of}, Values.{GivenText, GivenTruth, GivenValue, Member, SymbolPlace, condition, conditions, default_text, default_value, first_met, is_n, is_visible, modules_value, number_as, number_or_zero, selector_values, single_text, upgrade, upgraded, user_or, visibility, visible_text}, declared.{expressions.{SymId.{SymId}, SymbolType.{SymbolType, TheVariants.{Hex, Int, Tristate}}, Tri.{Tri, TheVariants.{M, N, Y}}}, symbols.SelectOrImply.{SelectOrImply}, values.Interval.{Interval}}}
use Rattle.kc_outcome.specs.Explanations.{Fact, Holds, default_given, bound_text, bound_texts, ModulesAre, NotAllowed, NotRaised, RaisedBy, Said, UserGave, default_fact, default_facts, dependency_facts, is_met, is_y, lines_naming, line_condition, line_value, prompt_facts, prompt_lines, raise_facts, raise_value, raised_to, raising_lines, range_fact, range_facts, said_of, through, user_facts}
use Rattle.kc_outcome.proofs.ExplanationParts.{dependency_is, line_is, prompt_is}
use Rattle.kc_outcome.proofs.FactLists.{IsFirst, back, changed, first_of, found, front, map_map, map_same, of_both, of_map, passing}
use Rattle.kc_outcome.proofs.FactsHold.{raised_is}
use Rattle.kc_outcome.proofs.SaidLines.{guard_of, guard_raise, lines_are, naming_are, prompts_are, ranges_are, shown}
use Rattle.kc_outcome.proofs.TriLemmas.{greater-y, n_of, y_of}

-- A selection to y, and a user's value that counts, leave nothing to the rest.
pub user_at_n : (user : Option GivenValue) (t : Tri) → user_or user N t ≡ t
user_at_n None t = refl
user_at_n (Some (GivenTruth u)) t = refl
user_at_n (Some (GivenText b)) t = refl
user_at_n (Some (Member m)) t = refl

pub text_at_n : (user : Option GivenValue) → visible_text user N ≡ None
text_at_n None = refl
text_at_n (Some (GivenTruth u)) = refl
text_at_n (Some (GivenText b)) = refl
text_at_n (Some (Member m)) = refl

never : (b : Bool) → (b && false) ≡ true → ⊥
never true e = true≢false (sym e)
never false e = true≢false (sym e)

user_counts : (user : Option GivenValue) (vis s t : Tri) → (not (is_n vis) && elim user [ Some (GivenTruth u) ↦ true | _ ↦ false ]) ≡ true → user_or user vis s ≡ user_or user vis t
user_counts (Some (GivenTruth u)) N s t e = absurd (true≢false (sym e))
user_counts (Some (GivenTruth u)) M s t e = refl
user_counts (Some (GivenTruth u)) Y s t e = refl
user_counts None vis s t e = absurd (never (not (is_n vis)) e)
user_counts (Some (GivenText b)) vis s t e = absurd (never (not (is_n vis)) e)
user_counts (Some (Member m)) vis s t e = absurd (never (not (is_n vis)) e)

or_cases : (a b : Bool) → (a || b) ≡ true → (a ≡ true) ⊎ (b ≡ true)
or_cases true b e = inl refl
or_cases false b e = inr e

-- The greatest of these two is the same if the user's value counts, if the second is y, or if what the user's value stands for is the same.
pub base_same : (user : Option GivenValue) (vis raised s t : Tri) (b : Bool) →
    ((not (is_n vis) && elim user [ Some (GivenTruth u) ↦ true | _ ↦ false ]) || is_y raised) ≡ b → (b ≡ false → s ≡ t) →
    greater (user_or user vis s) raised ≡ greater (user_or user vis t) raised
base_same user vis raised s t true e h = elim (or_cases (not (is_n vis) && elim user [ Some (GivenTruth u) ↦ true | _ ↦ false ]) (is_y raised) e) [
  | inl f ↦ ap (λ x. greater x raised) (user_counts user vis s t f)
  | inr f ↦ ap (greater (user_or user vis s)) (y_of raised f) ∙ greater-y (user_or user vis s) ∙ sym (greater-y (user_or user vis t))
      ∙ ap (greater (user_or user vis t)) (sym (y_of raised f))
]
base_same user vis raised s t false e h = ap (λ x. greater (user_or user vis x) raised) (h refl)

-- The number of a bound is that of its text as it is written.
zero_number : (kind : SymbolType) → number_or_zero kind (codes "0") ≡ pos 0
unfolding natural_of
zero_number Int = refl
zero_number Hex = refl
zero_number _ = refl

bound_number : (kind : SymbolType) (bytes : List ℕ) → number_or_zero kind (bound_text kind bytes) ≡ number_or_zero kind bytes
bound_number kind bytes = elim (found (number_as kind bytes)) [
  | inl e ↦ rw e (zero_number kind)
  | inr f ↦ let own : bound_text kind bytes ≡ bytes = rw f.1 refl in ap (number_or_zero kind) own
]

module _ (ss : List Numbered) (tree : TreeFacts) (input other : UserInput) (k w : SymId → SymbolValue) where
  abbrev H : Fact → Type 0
  H = Holds ss tree other w

  abbrev Each : List Fact → Type 0
  Each = AllByRecursion H

  -- ---- Conditions
  prompts_same : (ps : List (Said (InputPrompt Form))) → Each (flat_map (prompt_facts ss tree input k) ps) →
      conditions tree k (map (shown ss) ps) ≡ conditions tree w (map (shown ss) ps)
  prompts_same [] h = refl
  prompts_same (p ∷ ps) h =
      let here : condition tree k (shown ss p) ≡ condition tree w (shown ss p) = sym (prompt_is ss tree k p) ∙ sym h.0 in
      let more = prompts_same ps (back H (prompt_facts ss tree input k p) _ h) in
      cc

  pub visible_same : (s : SymId) → Each (flat_map (prompt_facts ss tree input k) (prompt_lines ss (definitions_of ss s))) →
      conditions tree k (symbol_facts ss s).prompts ≡ conditions tree w (symbol_facts ss s).prompts
  visible_same s h = ap (conditions tree k) (prompts_are ss (definitions_of ss s)) ∙ prompts_same (prompt_lines ss (definitions_of ss s)) h
      ∙ ap (conditions tree w) (sym (prompts_are ss (definitions_of ss s)))

  pub dependencies_same : (js : List ℕ) → Each (flat_map (dependency_facts ss tree input k) js) →
      conditions tree k (map (dependency ss) js) ≡ conditions tree w (map (dependency ss) js)
  dependencies_same [] h = refl
  dependencies_same (i ∷ js) h =
      let here : condition tree k (dependency ss i) ≡ condition tree w (dependency ss i) = sym (dependency_is ss tree k i) ∙ sym h.0 in
      let more = dependencies_same js (back H (dependency_facts ss tree input k i) _ h) in
      cc

  -- The first line whose condition is not n: the facts up to it are listed, so it is the same line, and its fact holds.
  module _ {X Y : Type 0} (what : X → Y) (own : X → Option Form) (fact : Said X → Fact)
      (told : (l : Said X) → H (fact l) → line_condition ss tree w own l ≡ line_value ss tree input k own l) where
    abbrev is_first : List (Said X) → Type 0
    is_first = IsFirst (is_met ss tree input k own) (λ g. not (is_n (condition tree k g.when))) (λ g. not (is_n (condition tree w g.when))) (guard_of ss what own)
        (λ l. H (fact l))

    line_same : (l : Said X) → H (fact l) → condition tree k (guard_of ss what own l).when ≡ condition tree w (guard_of ss what own l).when
    line_same l h = sym (line_is ss tree k own l (what l.what)) ∙ sym (told l h)

    first_same : (ls : List (Said X)) → Each (map fact (through (is_met ss tree input k own) ls)) → is_first ls
    first_same ls h =
        let met = is_met ss tree input k own in
        first_of met _ _ (guard_of ss what own) (λ l. H (fact l)) (λ l. ap (λ t. not (is_n t)) (sym (line_is ss tree k own l (what l.what)))) ls
        (changed _ _ (through met ls) (λ l e. (ap (λ t. not (is_n t)) (told l e), e)) (of_map H fact (through met ls) h))

  -- ---- The default that counts
  abbrev DefaultSame : SymbolType → Option (Guarded Form) → Option (Guarded Form) → Type 0
  DefaultSame kind d e = (holds_text kind ≡ false → default_value tree k d ≡ default_value tree w e) × (holds_text kind ≡ true → default_text k d ≡ default_text w e)

  abbrev value_form : StatedDefault → Form
  value_form d = d.value

  abbrev default_if : StatedDefault → Option Form
  default_if d = d.when

  abbrev default_guards : List (Said StatedDefault) → List (Guarded Form)
  default_guards = map (guard_of ss value_form default_if)

  module _ (kind : SymbolType) where
    abbrev default_is : Said StatedDefault → Fact
    default_is = default_fact ss tree input k kind

    default_same : (d : Said StatedDefault) (b : Bool) → b ≡ true →
        IfSome (if b then Some (default_given tree k kind (d.what).value) else None) (λ g. default_given tree w kind (d.what).value ≡ g) →
        (holds_text kind ≡ false → value w tree.modules (d.what).value ≡ value k tree.modules (d.what).value)
        × (holds_text kind ≡ true → single_text w (d.what).value ≡ single_text k (d.what).value)
    default_same d false e h = absurd (true≢false (sym e))
    default_same d true e h =
        let form = (d.what).value in
        let given = λ (b : Bool) (v : SymId → SymbolValue). if b then GivenText (single_text v form) else GivenTruth (value v tree.modules form) in (
          λ plain. ap (λ g. elim g [ GivenTruth t ↦ t | _ ↦ N ]) (subst (λ b. given b w ≡ given b k) plain h),
          λ text. ap (λ g. elim g [ GivenText t ↦ t | _ ↦ [] ]) (subst (λ b. given b w ≡ given b k) text h),
        )

    defaults_by : (ls : List (Said StatedDefault)) → is_first value_form default_if default_is (λ d h. h.0) ls →
        DefaultSame kind (first_met tree k (default_guards ls)) (first_met tree w (default_guards ls))
    defaults_by ls (inl none) = (λ e. rw (none.0, none.1) refl, λ e. rw (none.0, none.1) refl)
    defaults_by ls (inr r) =
        let form = ((r.it).what).value in
        let same = default_same r.it _ r.passes (r.known).1 in
        let when = line_same value_form default_if default_is (λ d h. h.0) r.it r.known in (
          λ e. rw (r.first, r.also) (ap (λ t. lesser t (condition tree k (guard_of ss value_form default_if r.it).when)) (sym (same.0 e))
              ∙ ap (lesser (value w tree.modules form)) when),
          λ e. rw (r.first, r.also) (sym (same.1 e)),
        )

    pub defaults_same : (s : SymId) → Each (default_facts ss tree input k s kind) →
        DefaultSame kind (first_met tree k (symbol_facts ss s).defaults) (first_met tree w (symbol_facts ss s).defaults)
    defaults_same s h =
        let defaults : (symbol_facts ss s).defaults ≡ default_guards (said_of ss stated_default s) = lines_are ss stated_default value_form default_if (definitions_of ss s) in
        rw defaults (defaults_by (said_of ss stated_default s) (first_same value_form default_if default_is (λ d h. h.0) (said_of ss stated_default s) h))

  -- ---- The range that counts
  abbrev bounds_of : (Bounds × Option Form) → Bounds
  bounds_of r = r.0

  abbrev range_if : (Bounds × Option Form) → Option Form
  range_if r = r.1

  abbrev range_guards : List (Said (Bounds × Option Form)) → List (Guarded Bounds)
  range_guards = map (guard_of ss bounds_of range_if)

  module _ (kind : SymbolType) where
    abbrev between : (List ℕ × List ℕ) → Interval
    between texts = record { low = number_or_zero kind texts.0; high = number_or_zero kind texts.1 }

    abbrev interval : (SymId → SymbolValue) → Bounds → Interval
    interval v b = between (text v b.low, text v b.high)

    abbrev interval_by : (SymId → SymbolValue) → Option (Guarded Bounds) → Option Interval
    interval_by v o = option_map (λ r. interval v r.what) o

    abbrev range_is : Said (Bounds × Option Form) → Fact
    range_is = range_fact ss tree input k kind

    interval_is : (v : SymId → SymbolValue) (b : Bounds) → interval v b ≡ between (bound_texts tree v kind b)
    interval_is v b = ap (λ n. record { low = n; high = number_or_zero kind (text v b.high) }) (sym (bound_number kind (text v b.low)))
        ∙ ap (λ n. record { low = number_or_zero kind (bound_text kind (text v b.low)); high = n }) (sym (bound_number kind (text v b.high)))

    interval_same : (b : Bounds) (met : Bool) → met ≡ true → IfSome (if met then Some (bound_texts tree k kind b) else None) (λ r. bound_texts tree w kind b ≡ r) →
        interval k b ≡ interval w b
    interval_same b false e h = absurd (true≢false (sym e))
    interval_same b true e h = interval_is k b ∙ ap between (sym h) ∙ sym (interval_is w b)

    ranges_by : (ls : List (Said (Bounds × Option Form))) → is_first bounds_of range_if range_is (λ r h. h.0) ls →
        interval_by k (first_met tree k (range_guards ls)) ≡ interval_by w (first_met tree w (range_guards ls))
    ranges_by ls (inl none) = rw (none.0, none.1) refl
    ranges_by ls (inr r) = rw (r.first, r.also) (ap Some (interval_same (bounds_of (r.it).what) _ r.passes (r.known).1))

    pub ranges_same : (s : SymId) → Each (range_facts ss tree input k s kind) →
        interval_by k (first_met tree k (symbol_facts ss s).ranges) ≡ interval_by w (first_met tree w (symbol_facts ss s).ranges)
    ranges_same s h =
        let ranges : (symbol_facts ss s).ranges ≡ range_guards (said_of ss range_in s) = ranges_are ss (definitions_of ss s) in
        rw ranges (ranges_by (said_of ss range_in s) (first_same bounds_of range_if range_is (λ r h. h.0) (said_of ss range_in s) h))

  -- ---- The lines that raise
  abbrev same_raise : SymId × Said (Option Form) → Type 0
  same_raise r = raised_to ss tree k r ≡ raised_to ss tree w r

  nothing : (word : SelectOrImply) (rs : List (SymId × Said (Option Form))) → Each (elim rs [ [] ↦ [] | r ∷ more ↦ NotRaised word (r ∷ more) ∷ [] ]) →
      AllByRecursion (λ r. raised_to ss tree w r ≡ N) rs
  nothing word [] h = tt
  nothing word (r ∷ rs) h = recursion_from_All (λ r. raised_to ss tree w r ≡ N) (r ∷ rs) h.0

  raises_by : (word : SelectOrImply) (s : SymId) → Each (raise_facts ss tree input k word s) → AllByRecursion same_raise (raising_lines ss word s)
  raises_by word s h =
      let rs = raising_lines ss word s in
      let at_n = λ (r : SymId × Said (Option Form)). is_n (raise_value ss tree input k r) in
      let fact = λ (r : SymId × Said (Option Form)). RaisedBy word r (truth_of_value (k r.0)) (raise_value ss tree input k r) in
      let raised = map fact (filter (λ r. not (at_n r)) rs) in
      let rest = filter at_n rs in
      of_both at_n same_raise rs
      (changed _ same_raise (filter (λ r. not (at_n r)) rs) (λ r e. raised_is ss tree input k r ∙ sym e.1)
      (of_map H fact (filter (λ r. not (at_n r)) rs) (front H raised _ h)))
      (passing at_n _ same_raise rs (λ r e z. raised_is ss tree input k r ∙ n_of (raise_value ss tree input k r) e ∙ sym z) (nothing word rest (back H raised _ h)))

  -- The lines of both kinds, by what reads them.
  raised_values : (read : Numbered → Option (Option Form)) (b : Bool) →
      AllByRecursion same_raise (if b then flat_map (lines_naming ss read) (indices ss) else []) →
      selector_values tree k (if b then flat_map (naming_at ss read) (indices ss) else []) ≡ selector_values tree w (if b then flat_map (naming_at ss read) (indices ss) else [])
  raised_values read false h = refl
  raised_values read true h =
      let rs = flat_map (lines_naming ss read) (indices ss) in
      let chosen = λ (v : SymId → SymbolValue) (g : Guarded SymId). lesser (truth_of_value (v g.what)) (condition tree v g.when) in
      let are = naming_are ss read (indices ss) in
      ap (λ gs. greatest (map (chosen k) gs)) are ∙ ap greatest (map_map (chosen k) (guard_raise ss) rs
      ∙ map_same (λ r. chosen k (guard_raise ss r)) (λ r. chosen w (guard_raise ss r)) rs h ∙ sym (map_map (chosen w) (guard_raise ss) rs))
      ∙ ap (λ gs. greatest (map (chosen w) gs)) (sym are)

  pub selects_same : (s : SymId) → Each (raise_facts ss tree input k SelectOrImply.Select s) →
      selector_values tree k (symbol_facts ss s).selectors ≡ selector_values tree w (symbol_facts ss s).selectors
  selects_same s h = raised_values (targets SelectOrImply.Select s) (can_be_target ss s) (raises_by SelectOrImply.Select s h)

  pub implies_same : (s : SymId) → Each (raise_facts ss tree input k SelectOrImply.Imply s) →
      selector_values tree k (symbol_facts ss s).impliers ≡ selector_values tree w (symbol_facts ss s).impliers
  implies_same s h = raised_values (targets SelectOrImply.Imply s) (can_be_target ss s) (raises_by SelectOrImply.Imply s h)

  -- ---- The modules symbol, and the user's value
  pub modules_same : (m : Option SymId) → Each (map (λ m. ModulesAre m (truth_of_value (k m))) (listed m)) → modules_value k m ≡ modules_value w m
  modules_same None h = refl
  modules_same (Some m) h = sym h.0

  pub upgraded_same : modules_value k tree.modules ≡ modules_value w tree.modules → (type : SymbolType) (t : Tri) → upgraded tree k type t ≡ upgraded tree w type t
  upgraded_same e Tristate t = ap (λ m. if is_n m then upgrade t else t) e
  upgraded_same e _ t = refl

  -- Outside a choice the user's value is the same, or the symbol is not visible.
  pub user_same : (s : SymId) (f : SymbolFacts) → f.choice ≡ None → Each (user_facts ss tree input k s f) →
      (place_at other.places (SymbolPlace s.0) ≡ place_at input.places (SymbolPlace s.0)) ⊎ (visibility tree k f ≡ N)
  user_same s f outside h =
      by (is_some (place_at input.places (SymbolPlace s.0))) (is_visible tree k f) refl (rw outside at (front H _ (map (NotAllowed s) (listed (plain_refused input s))) h))
    where
      invisible : (t : Tri) → not (is_n t) ≡ false → t ≡ N
      invisible N e = refl
      invisible M e = absurd (true≢false e)
      invisible Y e = absurd (true≢false e)

      by : (a b : Bool) → is_visible tree k f ≡ b →
          Each (if a || b then UserGave (plain_line input input.lines s) (SymbolPlace s.0) (place_at input.places (SymbolPlace s.0)) ∷ [] else []) →
          (place_at other.places (SymbolPlace s.0) ≡ place_at input.places (SymbolPlace s.0)) ⊎ (visibility tree k f ≡ N)
      by true b e h = inl h.0
      by false true e h = inl h.0
      by false false e h = inr (invisible (visibility tree k f) e)
