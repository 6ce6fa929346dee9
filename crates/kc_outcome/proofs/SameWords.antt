-- Parts of an explanation whose words read the same under two inputs: their facts are the same, and lines that raise raise to the same value.
use Rattle.std.proofs.Common.{◌≡◌, refl, ap, sym, ◌∙◌, inl, inr, true, false, arith, append-nil, append_assoc}
use Rattle.std.proofs.lemmas.Bool.{cases_Bool}
use Rattle.std.proofs.lemmas.List.{map-append}
use Rattle.std.specs.List.{AllByRecursion, filter, flat_map, list_any}
use Rattle.std.specs.Prelude.{Bool, List, Option, [], if◌then◌else◌, length, map, not, ◌&&◌, ◌+◌, ◌++◌, ◌∷◌, ◌≡◌, ◌≤◌, ℕ}
use Rattle.kc_language.specs.{ConfigFile.{UserInput}, Expressions.{Form, SymbolValue, greater, greatest, lesser, same_symbol, truth_of_value, value}, Statements.{InputPrompt, Numbered}, Symbols.{Bounds, Guarded, StatedDefault, TreeFacts, can_be_target, choice_number, indices, members_of, naming_at, range_in, stated_default, symbol_facts, targets}, Values.{condition, is_n, selector_values, single_text}, declared.{expressions.{SymId.{SymId}, SymbolType.{SymbolType}, Tri.{Tri}}, symbols.SelectOrImply.{SelectOrImply}}}
use Rattle.kc_outcome.specs.Explanations.{ConditionPart, DependencyIs, Fact, MemberDefaultIs, MemberIs, ModulesAre, NotRaised, PartIs, PromptIs, RaisedBy, Said, counts, default_fact, default_facts, default_members, dependency_facts, dependency_parts, is_met, is_shown_member, line_value, lines_naming, member_default_fact, member_fact, member_value, part_facts, part_value, parts_value, preset_facts, prompt_facts, prompt_parts, raise_facts, raise_value, raising_lines, range_fact, range_facts, said_of, shown_parts, through, words_of}
use Rattle.kc_outcome.proofs.FactLists.{all_passing, map_map}
use Rattle.kc_outcome.proofs.FactsHold.{raised_is}
use Rattle.kc_outcome.proofs.SaidLines.{guard_raise, naming_are}
use Rattle.kc_outcome.proofs.TriLemmas.{n_of}
use Rattle.kc_outcome.proofs.WordLists.{Aligned, Fail, Pass, each, first_ones, flat, heads, more, told, until}
use Rattle.kc_outcome.proofs.WordsTell as tell
use Rattle.kc_outcome.proofs.WordsTell.{does_raise}

-- ---- Lists of truth values
greatest_passing : {X : Type 0} (u : X → Tri) (xs : List X) → greatest (map u (filter (λ x. not (is_n (u x))) xs)) ≡ greatest (map u xs)
greatest_passing u [] = refl
greatest_passing u (x ∷ xs) = elim (cases_Bool (is_n (u x))) [
  | inl e ↦ rw e (greatest_passing u xs ∙ ap (λ t. greater t (greatest (map u xs))) (sym (n_of (u x) e)))
  | inr e ↦ rw e (ap (greater (u x)) (greatest_passing u xs))
]

parted : {X : Type 0} (p : X → Bool) (xs : List X) → length (filter (λ x. not (p x)) xs) + length (filter p xs) ≡ length xs
parted p [] = refl
parted p (x ∷ xs) = elim (cases_Bool (p x)) [
  | inl e ↦ rw e (omega (arith, parted p xs))
  | inr e ↦ rw e (omega (arith, parted p xs))
]

pub mapped_to : {X F : Type 0} (P : F → Type 0) (f : X → F) (xs : List X) → AllByRecursion (λ x. P (f x)) xs → AllByRecursion P (map f xs)
mapped_to P f [] h = tt
mapped_to P f (x ∷ xs) h = (h.0, mapped_to P f xs h.1)

map_each : {X Y : Type 0} (f g : X → Y) (xs : List X) → ((x : X) → f x ≡ g x) → map f xs ≡ map g xs
map_each f g [] same = refl
map_each f g (x ∷ xs) same = ap (λ y. y ∷ map f xs) (same x) ∙ ap (λ ys. g x ∷ ys) (map_each f g xs same)

length_map : {X Y : Type 0} (f : X → Y) (xs : List X) → length (map f xs) ≡ length xs
length_map f [] = refl
length_map f (x ∷ xs) = omega (arith, length_map f xs)

-- What a symbol is raised to: the greatest value of the lines that raise it.
module _ (ss : List Numbered) (tree : TreeFacts) (input : UserInput) (v : SymId → SymbolValue) where
  raised_greatest : (read : Numbered → Option (Option Form)) (b : Bool) → selector_values tree v (if b then flat_map (naming_at ss read) (indices ss) else [])
      ≡ greatest (map (raise_value ss tree input v) (if b then flat_map (lines_naming ss read) (indices ss) else []))
  raised_greatest read false = refl
  raised_greatest read true =
      let rs = flat_map (lines_naming ss read) (indices ss) in
      let chosen = λ (g : Guarded SymId). lesser (truth_of_value (v g.what)) (condition tree v g.when) in
      ap (λ gs. greatest (map chosen gs)) (naming_are ss read (indices ss))
      ∙ ap greatest (map_map chosen (guard_raise ss) rs ∙ map_each (λ r. chosen (guard_raise ss r)) (raise_value ss tree input v) rs (raised_is ss tree input v))

  pub selected_greatest : (s : SymId) → selector_values tree v (symbol_facts ss s).selectors
      ≡ greatest (map (raise_value ss tree input v) (raising_lines ss SelectOrImply.Select s))
  selected_greatest s = raised_greatest (targets SelectOrImply.Select s) (can_be_target ss s)

  pub implied_greatest : (s : SymId) → selector_values tree v (symbol_facts ss s).impliers
      ≡ greatest (map (raise_value ss tree input v) (raising_lines ss SelectOrImply.Imply s))
  implied_greatest s = raised_greatest (targets SelectOrImply.Imply s) (can_be_target ss s)

-- ---- The parts of an explanation
module _ (is_raw : Bool) (ss : List Numbered) (tree : TreeFacts) (a b : UserInput) (k w : SymId → SymbolValue) where
  abbrev word : Fact → List ℕ
  word = words_of is_raw tree

  pub two_parts : (xs ys us vs : List Fact) → map word (xs ++ us) ≡ map word (ys ++ vs) → map word xs ++ map word us ≡ map word ys ++ map word vs
  two_parts xs ys us vs e = sym (map-append word xs us) ∙ e ∙ map-append word ys vs

  pub with_nil : (xs ys : List Fact) → map word xs ≡ map word ys → map word xs ++ [] ≡ map word ys ++ []
  with_nil xs ys e = append-nil (map word xs) ∙ e ∙ sym (append-nil (map word ys))

  pub parts_aligned : (ps : List ConditionPart) → Aligned word (part_facts ss tree a k ps) (part_facts ss tree b w ps)
  parts_aligned ps = each word (λ p. PartIs p (part_value tree k p)) (λ p. PartIs p (part_value tree w p)) (λ p. tell.part is_raw tree p _ _) ps

  pub dependency_aligned : (i : ℕ) → Aligned word (dependency_facts ss tree a k i) (dependency_facts ss tree b w i)
  dependency_aligned i = more word (DependencyIs i (parts_value tree k (dependency_parts ss i))) (DependencyIs i (parts_value tree w (dependency_parts ss i)))
      (part_facts ss tree a k (dependency_parts ss i)) (part_facts ss tree b w (dependency_parts ss i)) (tell.dependency is_raw tree i _ _) (parts_aligned (dependency_parts ss i))

  prompt_aligned : (p : Said (InputPrompt Form)) → Aligned word (prompt_facts ss tree a k p) (prompt_facts ss tree b w p)
  prompt_aligned p = more word (PromptIs p (parts_value tree k (prompt_parts ss p))) (PromptIs p (parts_value tree w (prompt_parts ss p)))
      (part_facts ss tree a k (shown_parts ss p)) (part_facts ss tree b w (shown_parts ss p)) (tell.prompt is_raw tree p _ _) (parts_aligned (shown_parts ss p))

  pub dependencies_aligned : (js : List ℕ) → Aligned word (flat_map (dependency_facts ss tree a k) js) (flat_map (dependency_facts ss tree b w) js)
  dependencies_aligned js = flat word (dependency_facts ss tree a k) (dependency_facts ss tree b w) dependency_aligned js

  pub prompts_aligned : (ps : List (Said (InputPrompt Form))) → Aligned word (flat_map (prompt_facts ss tree a k) ps) (flat_map (prompt_facts ss tree b w) ps)
  prompts_aligned ps = flat word (prompt_facts ss tree a k) (prompt_facts ss tree b w) prompt_aligned ps

  pub modules_aligned : (ms : List SymId) → Aligned word (map (λ m. ModulesAre m (truth_of_value (k m))) ms) (map (λ m. ModulesAre m (truth_of_value (w m))) ms)
  modules_aligned ms = each word (λ m. ModulesAre m (truth_of_value (k m))) (λ m. ModulesAre m (truth_of_value (w m))) (λ m. tell.modules is_raw tree m _ _) ms

  pub defaults_aligned : (s : SymId) (kind : SymbolType) → Aligned word (default_facts ss tree a k s kind) (default_facts ss tree b w s kind)
  defaults_aligned s kind r t e =
      let when = λ (x : StatedDefault). x.when in
      let all = until word (default_fact ss tree a k kind) (default_fact ss tree b w kind) (is_met ss tree a k when) (is_met ss tree b w when)
      (λ d h. let both = tell.default is_raw tree kind d (single_text k (d.what).value) (single_text w (d.what).value)
      (value k tree.modules (d.what).value) (value w tree.modules (d.what).value) (line_value ss tree a k when d) (line_value ss tree b w when d) h in
      (both.0, ap (λ x. not (is_n x)) both.1)) (said_of ss stated_default s) r t e in
      (all.0, all.2)

  pub ranges_aligned : (s : SymId) (kind : SymbolType) → Aligned word (range_facts ss tree a k s kind) (range_facts ss tree b w s kind)
  ranges_aligned s kind r t e =
      let when = λ (x : Bounds × Option Form). x.1 in
      let all = until word (range_fact ss tree a k kind) (range_fact ss tree b w kind) (is_met ss tree a k when) (is_met ss tree b w when)
      (λ d h. let both = tell.range is_raw tree kind d _ _ _ _ (line_value ss tree a k when d) (line_value ss tree b w when d) h in
      (both.0, ap (λ x. not (is_n x)) both.1)) (said_of ss range_in s) r t e in
      (all.0, all.2)

  -- ---- The lines that raise a symbol: to the same value.
  module _ (sel : SelectOrImply) (s : SymId) where
    abbrev rs : List (SymId × Said (Option Form))
    rs = raising_lines ss sel s

    abbrev fact_by : UserInput → (SymId → SymbolValue) → SymId × Said (Option Form) → Fact
    fact_by input v r = RaisedBy sel r (truth_of_value (v r.0)) (raise_value ss tree input v r)

    abbrev raising : UserInput → (SymId → SymbolValue) → List (SymId × Said (Option Form))
    raising input v = filter (λ r. not (is_n (raise_value ss tree input v r))) rs

    abbrev others : UserInput → (SymId → SymbolValue) → List (SymId × Said (Option Form))
    others input v = filter (λ r. is_n (raise_value ss tree input v r)) rs

    abbrev rest_of : List (SymId × Said (Option Form)) → List Fact
    rest_of ls = elim ls [ [] ↦ [] | r ∷ more ↦ NotRaised sel (r ∷ more) ∷ [] ]

    words_split : (input : UserInput) (v : SymId → SymbolValue) (r : List (List ℕ)) → map word (raise_facts ss tree input v sel s) ++ r
        ≡ map word (map (fact_by input v) (raising input v)) ++ (map word (rest_of (others input v)) ++ r)
    words_split input v r = ap (λ l. l ++ r) (map-append word (map (fact_by input v) (raising input v)) (rest_of (others input v)))
        ∙ append_assoc (map word (map (fact_by input v) (raising input v))) (map word (rest_of (others input v))) r

    all_raise : (input : UserInput) (v : SymId → SymbolValue) → Pass does_raise (map word (map (fact_by input v) (raising input v)))
    all_raise input v = mapped_to _ word (map (fact_by input v) (raising input v)) (mapped_to _ (fact_by input v) (raising input v)
        (all_passing (λ r. not (is_n (raise_value ss tree input v r))) (λ r. does_raise (word (fact_by input v r)) ≡ true) rs
        (λ r e. tell.raised_raises is_raw tree sel r (truth_of_value (v r.0)) (raise_value ss tree input v r) e)))

    none_raise : (ls : List (SymId × Said (Option Form))) → Fail does_raise (map word (rest_of ls))
    none_raise [] = tt
    none_raise (r ∷ ls) = (tell.others_raise_not is_raw tree sel (r ∷ ls), tt)

    none_empty : (ls : List (SymId × Said (Option Form))) → map word (rest_of ls) ≡ [] → length ls ≡ 0
    none_empty [] e = refl
    none_empty (r ∷ ls) e = absurd cc

    counted : (input : UserInput) (v : SymId → SymbolValue) → length (raising input v) + length (others input v) ≡ length rs
    counted input v = parted (λ r. is_n (raise_value ss tree input v r)) rs

    word_count : (input : UserInput) (v : SymId → SymbolValue) → length (map word (map (fact_by input v) (raising input v))) ≡ length (raising input v)
    word_count input v = length_map word (map (fact_by input v) (raising input v)) ∙ length_map (fact_by input v) (raising input v)

    -- A list without others has all lines, so it has no fewer than another list.
    no_fewer : (x y : UserInput) (u v : SymId → SymbolValue) → map word (rest_of (others x u)) ≡ [] →
        length (map word (map (fact_by y v) (raising y v))) ≤ length (map word (map (fact_by x u) (raising x u)))
    no_fewer x y u v e = omega (arith, none_empty (others x u) e, counted x u, counted y v, word_count x u, word_count y v)

    ends_same : (xs ys : List (SymId × Said (Option Form))) (r t : List (List ℕ)) → length xs ≡ length ys →
        map word (rest_of xs) ++ r ≡ map word (rest_of ys) ++ t → r ≡ t
    ends_same [] [] r t n e = e
    ends_same [] (y ∷ ys) r t n e = absurd (omega (arith, n))
    ends_same (x ∷ xs) [] r t n e = absurd (omega (arith, n))
    ends_same (x ∷ xs) (y ∷ ys) r t n e = (heads e).1

    pub raised_same : (r t : List (List ℕ)) → map word (raise_facts ss tree a k sel s) ++ r ≡ map word (raise_facts ss tree b w sel s) ++ t →
        (greatest (map (raise_value ss tree a k) rs) ≡ greatest (map (raise_value ss tree b w) rs)) × (r ≡ t)
    raised_same r t e =
        let xs = map word (map (fact_by a k) (raising a k)) in let ys = map word (map (fact_by b w) (raising b w)) in
        let both = first_ones does_raise xs ys (map word (rest_of (others a k))) (map word (rest_of (others b w))) r t
        (all_raise a k) (all_raise b w) (none_raise (others a k)) (none_raise (others b w)) (no_fewer a b k w) (no_fewer b a w k)
        (sym (words_split a k r) ∙ e ∙ words_split b w t) in
        let values = told (λ r. word (fact_by a k r)) (λ r. word (fact_by b w r)) (raise_value ss tree a k) (raise_value ss tree b w)
        (λ x y h. tell.raised is_raw tree sel x y _ _ _ _ h) (raising a k) (raising b w)
        (sym (map_map word (fact_by a k) (raising a k)) ∙ both.0 ∙ map_map word (fact_by b w) (raising b w)) in
        let lengths : length xs ≡ length ys = ap length both.0 in (
          sym (greatest_passing (raise_value ss tree a k) rs) ∙ ap greatest values ∙ greatest_passing (raise_value ss tree b w) rs,
          ends_same (others a k) (others b w) r t (omega (arith, lengths, counted a k, counted b w, word_count a k, word_count b w)) both.1,
        )

  -- ---- A choice: its defaults up to the one that counts, or the members up to the first visible one
  module _ (j : ℕ) where
    abbrev members : List SymId
    members = members_of ss (choice_number ss j)

    abbrev is_seen : UserInput → (SymId → SymbolValue) → SymId → Bool
    is_seen input v m = not (is_n (member_value ss tree input v m))

    members_aligned : Aligned word (map (member_fact ss tree a k) (through (is_seen a k) members)) (map (member_fact ss tree b w) (through (is_seen b w) members))
    members_aligned r t e =
        let all = until word (member_fact ss tree a k) (member_fact ss tree b w) (is_seen a k) (is_seen b w)
        (λ m h. let same = tell.member is_raw tree m m _ _ refl h in (ap (MemberIs m) same, ap (λ x. not (is_n x)) same)) members r t e in
        (all.0, all.2)

    default_same : (d : Said (SymId × Option Form)) → word (member_default_fact ss tree a k d) ≡ word (member_default_fact ss tree b w d) →
        (member_default_fact ss tree a k d ≡ member_default_fact ss tree b w d) × (counts ss tree a k j d ≡ counts ss tree b w j d)
    default_same d h =
        let when = λ (x : SymId × Option Form). x.1 in
        let both = tell.member_default is_raw tree d _ _ _ _ h in
        let is = list_any (same_symbol (d.what).0) members in (
          ap (λ x. MemberDefaultIs d x (member_value ss tree a k (d.what).0)) both.0 ∙ ap (MemberDefaultIs d (line_value ss tree b w when d)) both.1,
          ap (λ x. not (is_n x) && is_shown_member ss tree a k j (d.what).0) both.0
              ∙ ap (λ x. is_met ss tree b w when d && (is && not (is_n x))) both.1,
        )

    abbrev first_by : UserInput → (SymId → SymbolValue) → List Fact
    first_by input v = map (member_default_fact ss tree input v) (through (counts ss tree input v j) (default_members ss j))

    abbrev any_by : UserInput → (SymId → SymbolValue) → Bool
    any_by input v = list_any (counts ss tree input v j) (default_members ss j)

    abbrev rest_by : UserInput → (SymId → SymbolValue) → Bool → List Fact
    rest_by input v any = if any then [] else map (member_fact ss tree input v) (through (is_seen input v) members)

    rest_aligned : (any : Bool) → Aligned word (rest_by a k any) (rest_by b w any)
    rest_aligned true r t e = (refl, e)
    rest_aligned false r t e = members_aligned r t e

    pub presets_aligned : Aligned word (preset_facts ss tree a k j) (preset_facts ss tree b w j)
    presets_aligned r t e =
        let split : (input : UserInput) (v : SymId → SymbolValue) (l : List (List ℕ)) → map word (preset_facts ss tree input v j) ++ l
        ≡ map word (first_by input v) ++ (map word (rest_by input v (any_by input v)) ++ l) =
        λ input v l. ap (λ x. x ++ l) (map-append word (first_by input v) (rest_by input v (any_by input v)))
        ∙ append_assoc (map word (first_by input v)) (map word (rest_by input v (any_by input v))) l in
        let first = until word (member_default_fact ss tree a k) (member_default_fact ss tree b w) (counts ss tree a k j) (counts ss tree b w j) default_same
        (default_members ss j) (map word (rest_by a k (any_by a k)) ++ r) (map word (rest_by b w (any_by b w)) ++ t) (sym (split a k r) ∙ e ∙ split b w t) in
        let rest = rest_aligned (any_by a k) r t (first.2 ∙ ap (λ x. map word (rest_by b w x) ++ t) (sym first.1)) in
        (ap (λ l. l ++ rest_by a k (any_by a k)) first.0 ∙ ap (λ l. first_by b w ++ l) (rest.0 ∙ ap (rest_by b w) first.1), rest.1)
