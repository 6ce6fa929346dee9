-- An equation reads only what it names.
use Rattle.std.proofs.{Common.{Bool, List, None, Option, Some, [], ap, arith, cond, false, map, refl, suc, sym, true, ℕ, ◌++◌, ◌∷◌, ◌≡◌}, lemmas.Bool.true≢false}
use Rattle.std.specs.List.{AllByRecursion, Contains, filter, flat_map}
use Rattle.kc_language.specs.{Expressions.{SymbolValue, TextValue, Truth, symbol, symbols}, Needs.{needs_of}, Symbols.{ChoiceFacts, Condition, Guarded, SymbolFacts, TreeFacts, is_symbol_of}, Values.{GivenValue, UserPlace, choice_at, equations, facts, known_from, name, upgrade, user_place}, declared.expressions.{SymId.SymId, SymbolType.{SymbolType, TheVariants.{Bool as IsBool, Hex, Int, Str, Tristate, Undefined}}, Tri.TheVariants.{N, Y}}}
use Rattle.kc_expr.specs.Value.{DependsOnSymbols}
use Rattle.kc_values.specs.{PartsOfNeeds.mode_names, PartsOfValues.{by_choice, is_mentioned}}
use Rattle.kc_language.specs.Values as v
use Rattle.kc_values.specs.PartsOfValues as v_parts
use Rattle.kc_language.specs.Needs as n
use Rattle.kc_values.specs.PartsOfNeeds as n_parts
use Rattle.kc_order.specs.Solution.{ReadsNeeds}
use Rattle.kc_values.proofs.AllLemmas.{all_same, in_flat}
use Rattle.kc_values.proofs.ReadAlike as read

module _ (law : DependsOnSymbols) (tree : TreeFacts) (k l : SymId → SymbolValue) where
  abbrev Sames : List SymId → Type 0
  Sames ss = read.Sames law tree k l ss

  front : (xs ys : List SymId) → Sames (xs ++ ys) → Sames xs
  front xs ys h = read.front law tree k l xs ys h

  back : (xs ys : List SymId) → Sames (xs ++ ys) → Sames ys
  back xs ys h = read.back law tree k l xs ys h

  same_prompt : (p : Option Condition) → Sames (n.conjunct_names tree p) → v_parts.prompt_value tree k p ≡ v_parts.prompt_value tree l p
  same_prompt None h = refl
  same_prompt (Some c) h = read.same_and_value law tree k l c.conjuncts (in_flat (read.Same law tree k l) (symbols tree.modules) c.conjuncts h)

  same_mode : (c : Option ChoiceFacts) → Sames (n_parts.prompt_names tree c) → v.mode_of tree k c ≡ v.mode_of tree l c
  same_mode None h = refl
  same_mode (Some c) h = ap upgrade (same_prompt c.prompt h)

  same_mode_value : (m : Option ℕ) → Sames (mode_names tree m) → v_parts.mode_value tree k m ≡ v_parts.mode_value tree l m
  same_mode_value None h = refl
  same_mode_value (Some c) h = same_mode (choice_at tree c) h

  pub same_condition : (c : Condition) → Sames (n.condition_names tree c) → v.condition tree k c ≡ v.condition tree l c
  same_condition c h =
      let a = same_prompt (Some c) (front (flat_map (symbols tree.modules) c.conjuncts) (mode_names tree c.mode) h) in
      let b = same_mode_value c.mode (back (flat_map (symbols tree.modules) c.conjuncts) (mode_names tree c.mode) h) in
      cc

  conditions : (cs : List Condition) → Sames (flat_map (n.condition_names tree) cs) → AllByRecursion (read.SameCondition law tree k l) cs
  conditions cs h = all_same (λ c. Sames (n.condition_names tree c)) (read.SameCondition law tree k l) same_condition cs (in_flat (read.Same law tree k l) (n.condition_names tree) cs h)

  guarded : {X : Type 0} (names : X → List SymId) (gs : List (Guarded X)) → Sames (n.guarded_names tree names gs) → AllByRecursion (read.SameGuarded law tree k l names) gs
  guarded {X} names gs h =
      let both : Guarded X → List SymId = λ g. names g.what ++ n.condition_names tree g.when in
      all_same (λ g. Sames (both g)) (read.SameGuarded law tree k l names)
      (λ g hs. (front (names g.what) (n.condition_names tree g.when) hs, same_condition g.when (back (names g.what) (n.condition_names tree g.when) hs)))
      gs (in_flat (read.Same law tree k l) both gs h)

  module _ (f : SymbolFacts) where
    abbrev Prompts : List SymId
    Prompts = flat_map (n.condition_names tree) f.prompts

    abbrev Defaults : List SymId
    Defaults = n.guarded_names tree (symbols tree.modules) f.defaults

    abbrev Deps : List SymId
    Deps = flat_map (n.condition_names tree) f.dependencies

    abbrev Selectors : List SymId
    Selectors = n.guarded_names tree (n_parts.one_name) f.selectors

    abbrev Impliers : List SymId
    Impliers = n.guarded_names tree (n_parts.one_name) f.impliers

    abbrev Own : List SymId
    Own = n_parts.type_names tree f.symbol_type

    abbrev Ranges : List SymId
    Ranges = n.guarded_names tree (n_parts.bounds_names) f.ranges

    same_common : Sames (n.names_of_all tree f) → read.AreSame law tree k l f
    same_common h = record { prompts = conditions f.prompts (front Prompts Defaults h); defaults = guarded (symbols tree.modules) f.defaults (back Prompts Defaults h) }

    same_truths : Sames (n.names_of_truth tree f) → read.AreSameTruths law tree k l f
    same_truths h =
        let more1 = back (Prompts ++ Defaults) (Deps ++ (Selectors ++ (Impliers ++ Own))) h in
        let more2 = back Deps (Selectors ++ (Impliers ++ Own)) more1 in
        let more3 = back Selectors (Impliers ++ Own) more2 in
        record {
          common = same_common (front (Prompts ++ Defaults) (Deps ++ (Selectors ++ (Impliers ++ Own))) h);
          dependencies = conditions f.dependencies (front Deps (Selectors ++ (Impliers ++ Own)) more1);
          selectors = guarded n_parts.one_name f.selectors (front Selectors (Impliers ++ Own) more2);
          impliers = guarded n_parts.one_name f.impliers (front Impliers Own more3);
          own = back Impliers Own more3;
        }

    same_numbers : Sames (n.names_of_number tree f) → read.AreSameNumbers law tree k l f
    same_numbers h = record {
      common = same_common (front (Prompts ++ Defaults) Ranges h);
      ranges = guarded n_parts.bounds_names f.ranges (back (Prompts ++ Defaults) Ranges h);
    }

    same_by : (symbol_type : SymbolType) → Sames (n.names_by_type tree f symbol_type) → read.AreSameBy law tree k l f symbol_type
    same_by Undefined h = tt
    same_by IsBool h = same_truths h
    same_by Tristate h = same_truths h
    same_by Str h = same_common h
    same_by Int h = same_numbers h
    same_by Hex h = same_numbers h

  -- Choices.
  same_visible : (m : SymId) → Sames (n_parts.prompts_names tree (facts tree m)) → v.visible tree k m ≡ v.visible tree l m
  same_visible m h = by (facts tree m) h
    where
      by : (f : Option SymbolFacts) → Sames (n_parts.prompts_names tree f) → v_parts.visible_facts tree k f ≡ v_parts.visible_facts tree l f
      by None h = refl
      by (Some f) h = read.same_shown law tree k l f (conditions f.prompts h)

  pub same_selected : (c : Option ChoiceFacts) (user : Option GivenValue) → Sames (n.names_of_choice tree c) → v.selected tree k c user ≡ v.selected tree l c user
  same_selected None user h = refl
  same_selected (Some c) user h =
      let shown : SymId → List SymId = λ m. n_parts.prompts_names tree (facts tree m) in
      let own = n.conjunct_names tree c.prompt in
      let defaults = n.guarded_names tree (n_parts.no_name) c.defaults in
      let more = back (flat_map shown c.members) (own ++ defaults) h in
      read.same_selected law tree k l c user
      (record {
        members =
            all_same (λ m. Sames (shown m)) (read.SameVisible law tree k l) same_visible c.members
            (in_flat (read.Same law tree k l) shown c.members (front (flat_map shown c.members) (own ++ defaults) h));
        mode = same_prompt c.prompt (front own defaults more);
        defaults =
            all_same (read.SameGuarded law tree k l n_parts.no_name) (λ (g : Guarded SymId). read.SameCondition law tree k l g.when) (λ g e. e.1) c.defaults
            (guarded n_parts.no_name c.defaults (back own defaults more));
      })

  same_by_choice : (s : SymId) (f : SymbolFacts) (c : Option ℕ) (user : Option GivenValue) → Sames (n_parts.names_by_choice tree f c) → by_choice tree k s f c user ≡ by_choice tree l s f c user
  same_by_choice s f None user h = read.same_by_type law tree k l s f f.symbol_type user (same_by f f.symbol_type h)
  same_by_choice s f (Some c) user h =
      ap (λ o. Truth (cond (is_symbol_of s o) Y N)) (same_selected (choice_at tree c) user h)

  pub same_equation : (s : SymId) (f : Option SymbolFacts) (user : Option GivenValue) → Sames (n.named_by tree f) → v.equation tree k s f user ≡ v.equation tree l s f user
  same_equation s None user h = refl
  same_equation s (Some f) user h = same_by_choice s f f.choice user h

-- past the last symbol all is known alike
pub seen_mentioned : (b : Bool) (x y u : SymbolValue) → (b ≡ true → x ≡ y) → cond b x u ≡ cond b y u
seen_mentioned true x y u h = h refl
seen_mentioned false x y u h = refl

-- the numbers of what passes
kept_first : {X : Type 0} (g : X → ℕ) (b : Bool) (x : X) (r : List X) → b ≡ true → Contains (map g (cond b (x ∷ r) r)) (g x)
kept_first g true x r e = (0, omega arith, refl)
kept_first g false x r e = absurd (true≢false (sym e))

kept_more : {X : Type 0} (g : X → ℕ) (b : Bool) (x : X) (t : ℕ) (r : List X) → Contains (map g r) t → Contains (map g (cond b (x ∷ r) r)) t
kept_more g false x t r c = c
kept_more g true x t r c = (suc c.0, omega (arith, c.1), c.2)

module _ (tree : TreeFacts) (V W : ℕ → SymbolValue) where
  abbrev numbers : List SymId → List ℕ
  numbers all = map (λ (s : SymId). s.0) (filter (is_mentioned tree) all)

  seen_alike : (all : List SymId) → ((t : ℕ) → Contains (numbers all) t → V t ≡ W t) → AllByRecursion (λ s. known_from tree V s ≡ known_from tree W s) all
  seen_alike [] h = tt
  seen_alike (s ∷ all) h =
      let number = λ (x : SymId). x.0 in (
        seen_mentioned (is_mentioned tree s) (V s.0) (W s.0) (TextValue Undefined (name tree s)) (λ d. h s.0 (kept_first number (is_mentioned tree s) s (filter (is_mentioned tree) all) d)),
        seen_alike all (λ t i. h t (kept_more number (is_mentioned tree s) s t (filter (is_mentioned tree) all) i)),
      )

  pub same_seen : (all : List SymId) → ((t : ℕ) → Contains (n_parts.mentioned_numbers tree all) t → V t ≡ W t) → AllByRecursion (λ s. known_from tree V s ≡ known_from tree W s) all
  same_seen all h = seen_alike all h

pub reads_needs : DependsOnSymbols → (tree : TreeFacts) (user : UserPlace → Option GivenValue) → ReadsNeeds (needs_of tree) (equations tree user)
reads_needs law tree user s V W h =
    same_equation law tree (known_from tree V) (known_from tree W) (symbol s) (facts tree (symbol s)) (user (user_place tree s)) (same_seen tree V W (n.named_by tree (facts tree (symbol s))) h)
