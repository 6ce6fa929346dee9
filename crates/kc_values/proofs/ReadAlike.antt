-- An equation gives the same under two valuations where what it reads is worth the same: its conditions, and the symbols that it names besides.
use Rattle.std.proofs.{Common.{Bool, List, None, Option, Some, [], ap, cond, false, inl, inr, not, refl, sym, true, ℕ, ◌&&◌, ◌||◌, ◌++◌, ◌∙◌, ◌∷◌, ◌≡◌}, lemmas.{Bool.cases_Bool, List.Elements.All-from_recursion}}
use Rattle.std.specs.List.{AllByRecursion, list_any}
use Rattle.kc_language.specs.{Expressions.{Every, Form, Leaf, LoneM, Negated, Related, Single, Some_of, Symbol, SymbolValue, Text, TextValue, Truth, greater, greatest, leaf_symbols, least, lesser, same_symbol, symbols, text, truth_of_value, value}, Symbols.{Bounds, ChoiceFacts, Condition, Guarded, SymbolFacts, TreeFacts, listed}, Values.{GivenText, GivenTruth, GivenValue, Member, is_n, number_or_zero, upgrade}, declared.{expressions.{SymId.SymId, SymbolType.{SymbolType, TheVariants.{Bool as IsBool, Hex, Int, Str, Tristate, Undefined}}, Tri.{TheVariants.{M, N, Y}, Tri}}, values.Interval.Interval}}
use Rattle.kc_expr.specs.{PartsOfExpressions.text_of_value, Value.DependsOnSymbols}
use Rattle.kc_values.specs.PartsOfValues.{chosen_member, text_equation, unselected}
use Rattle.kc_language.specs.Values as v
use Rattle.kc_values.specs.PartsOfValues as v_parts
use Rattle.kc_values.specs.PartsOfNeeds as n_parts
use Rattle.kc_values.proofs.Same.{back_of, found_alike, front_of, map_alike, same_symbol-true}

module _ (law : DependsOnSymbols) (tree : TreeFacts) (k l : SymId → SymbolValue) where
  abbrev pub Same : SymId → Type 0
  Same s = k s ≡ l s

  abbrev pub Sames : List SymId → Type 0
  Sames ss = AllByRecursion Same ss

  pub front : (xs ys : List SymId) → Sames (xs ++ ys) → Sames xs
  front xs ys h = front_of Same xs ys h

  pub back : (xs ys : List SymId) → Sames (xs ++ ys) → Sames ys
  back xs ys h = back_of Same xs ys h

  -- a condition, and something under one with names of its own
  abbrev pub SameCondition : Condition → Type 0
  SameCondition c = v.condition tree k c ≡ v.condition tree l c

  abbrev pub SameGuarded : {X : Type 0} → (X → List SymId) → Guarded X → Type 0
  SameGuarded names g = Sames (names g.what) × SameCondition g.when

  abbrev pub SameVisible : SymId → Type 0
  SameVisible m = v.visible tree k m ≡ v.visible tree l m

  -- What all equations read that are not a name without a type, what a bool or tristate reads, an int or hex, and the selection of a choice.
  pub record AreSame (f : SymbolFacts) : Type 0 where
    pub prompts : AllByRecursion SameCondition f.prompts
    pub defaults : AllByRecursion (SameGuarded (symbols tree.modules)) f.defaults

  pub record AreSameTruths (f : SymbolFacts) : Type 0 where
    pub common : AreSame f
    pub dependencies : AllByRecursion SameCondition f.dependencies
    pub selectors : AllByRecursion (SameGuarded n_parts.one_name) f.selectors
    pub impliers : AllByRecursion (SameGuarded n_parts.one_name) f.impliers
    pub own : Sames (n_parts.type_names tree f.symbol_type)

  pub record AreSameNumbers (f : SymbolFacts) : Type 0 where
    pub common : AreSame f
    pub ranges : AllByRecursion (SameGuarded n_parts.bounds_names) f.ranges

  abbrev pub AreSameBy : SymbolFacts → SymbolType → Type 0
  AreSameBy f Undefined = Unit {0}
  AreSameBy f IsBool = AreSameTruths f
  AreSameBy f Tristate = AreSameTruths f
  AreSameBy f Str = AreSame f
  AreSameBy f Int = AreSameNumbers f
  AreSameBy f Hex = AreSameNumbers f

  pub record IsSameChoice (c : ChoiceFacts) : Type 0 where
    pub members : AllByRecursion SameVisible c.members
    pub mode : v_parts.prompt_value tree k c.prompt ≡ v_parts.prompt_value tree l c.prompt
    pub defaults : AllByRecursion (λ (g : Guarded SymId). SameCondition g.when) c.defaults

  pub same_value : (f : Form) → Sames (symbols tree.modules f) → value k tree.modules f ≡ value l tree.modules f
  same_value f h = law k l tree.modules f (All-from_recursion Same (symbols tree.modules f) h)

  same_text : (o : Leaf) → Sames (leaf_symbols o) → text k o ≡ text l o
  same_text (Text bytes) h = refl
  same_text (Symbol s) h = ap text_of_value h.0

  pub same_and_value : (fs : List Form) → AllByRecursion (λ f. Sames (symbols tree.modules f)) fs → v.and_value tree k fs ≡ v.and_value tree l fs
  same_and_value fs h = ap least (map_alike (λ f. Sames (symbols tree.modules f)) (value k tree.modules) (value l tree.modules) same_value fs h)

  pub same_conditions : (cs : List Condition) → AllByRecursion SameCondition cs → v.conditions tree k cs ≡ v.conditions tree l cs
  same_conditions cs h = ap greatest (map_alike SameCondition (v.condition tree k) (v.condition tree l) (λ c e. e) cs h)

  -- what is made of the first whose condition is not n
  same_first : {X Z : Type 0} (names : X → List SymId) (F G : Option (Guarded X) → Z) → F None ≡ G None →
      ((g : Guarded X) → SameGuarded names g → F (Some g) ≡ G (Some g)) → (gs : List (Guarded X)) → AllByRecursion (SameGuarded names) gs →
      F (v.first_met tree k gs) ≡ G (v.first_met tree l gs)
  same_first {X} names F G none each gs h =
      found_alike (SameGuarded names) (λ g. not (is_n (v.condition tree k g.when))) (λ g. not (is_n (v.condition tree l g.when))) F G none (λ g e. ap (λ t. not (is_n t)) (e.1)) each gs h

  same_modules : (m : Option SymId) → Sames (listed m) → v.modules_value k m ≡ v.modules_value l m
  same_modules None h = refl
  same_modules (Some m) h = ap truth_of_value h.0

  same_upgraded : (symbol_type : SymbolType) → Sames (n_parts.type_names tree symbol_type) → (t u : Tri) → t ≡ u → v.upgraded tree k symbol_type t ≡ v.upgraded tree l symbol_type u
  same_upgraded Undefined h t u e = ap upgrade e
  same_upgraded IsBool h t u e = ap upgrade e
  same_upgraded Tristate h t u e = let m = same_modules tree.modules h in cc
  same_upgraded Str h t u e = ap upgrade e
  same_upgraded Int h t u e = ap upgrade e
  same_upgraded Hex h t u e = ap upgrade e

  -- the tristate upgrade does not change whether a value is n
  is_n-upgrade : (t : Tri) → is_n (upgrade t) ≡ is_n t
  is_n-upgrade N = refl
  is_n-upgrade M = refl
  is_n-upgrade Y = refl

  is_n-if : (b : Bool) (t : Tri) → is_n (cond b (upgrade t) t) ≡ is_n t
  is_n-if true t = is_n-upgrade t
  is_n-if false t = refl

  is_n-upgraded : (known : SymId → SymbolValue) (symbol_type : SymbolType) (t : Tri) → is_n (v.upgraded tree known symbol_type t) ≡ is_n t
  is_n-upgraded known Undefined t = is_n-upgrade t
  is_n-upgraded known IsBool t = is_n-upgrade t
  is_n-upgraded known Tristate t = is_n-if (is_n (v.modules_value known tree.modules)) t
  is_n-upgraded known Str t = is_n-upgrade t
  is_n-upgraded known Int t = is_n-upgrade t
  is_n-upgraded known Hex t = is_n-upgrade t

  visible_text-is_n : (user : Option GivenValue) (t u : Tri) → is_n t ≡ is_n u → v.visible_text user t ≡ v.visible_text user u
  visible_text-is_n None t u e = refl
  visible_text-is_n (Some (GivenTruth x)) t u e = refl
  visible_text-is_n (Some (Member m)) t u e = refl
  visible_text-is_n (Some (GivenText bytes)) t u e = ap (λ b. cond b None (Some bytes)) e

  same_visible_text : (f : SymbolFacts) (user : Option GivenValue) → AllByRecursion SameCondition f.prompts →
      v.visible_text user (v.visibility tree k f) ≡ v.visible_text user (v.visibility tree l f)
  same_visible_text f user h =
      visible_text-is_n user (v.visibility tree k f) (v.visibility tree l f)
      (is_n-upgraded k f.symbol_type (v.conditions tree k f.prompts) ∙ ap is_n (same_conditions f.prompts h) ∙ sym (is_n-upgraded l f.symbol_type (v.conditions tree l f.prompts)))

  same_selector_values : (gs : List (Guarded SymId)) → AllByRecursion (SameGuarded n_parts.one_name) gs → v.selector_values tree k gs ≡ v.selector_values tree l gs
  same_selector_values gs h =
      ap greatest
      (map_alike (SameGuarded n_parts.one_name)
      (λ g. lesser (truth_of_value (k g.what)) (v.condition tree k g.when))
      (λ g. lesser (truth_of_value (l g.what)) (v.condition tree l g.when))
      (λ g e. let a = ap truth_of_value (e.0).0 in let b = e.1 in cc)
      gs h)

  same_default : (f : SymbolFacts) → AllByRecursion (SameGuarded (symbols tree.modules)) f.defaults →
      v.default_value tree k (v.first_met tree k f.defaults) ≡ v.default_value tree l (v.first_met tree l f.defaults)
  same_default f h =
      same_first (symbols tree.modules) (v.default_value tree k) (v.default_value tree l) refl
      (λ g e. let x = same_value g.what (e.0) in let y = e.1 in cc)
      f.defaults h

  same_single : (f : Form) → Sames (symbols tree.modules f) → v.single_text k f ≡ v.single_text l f
  same_single (Single o) h = same_text o h
  same_single (Related op a b) h = refl
  same_single (Negated f) h = refl
  same_single LoneM h = refl
  same_single (Every fs) h = refl
  same_single (Some_of fs) h = refl

  same_default_text : (f : SymbolFacts) → AllByRecursion (SameGuarded (symbols tree.modules)) f.defaults →
      v.default_text k (v.first_met tree k f.defaults) ≡ v.default_text l (v.first_met tree l f.defaults)
  same_default_text f h =
      same_first (symbols tree.modules) (v.default_text k) (v.default_text l) refl (λ g e. same_single g.what (e.0)) f.defaults h

  same_base : (user : Option GivenValue) (vis vis' d d' implied_to weak' dir dir' selected_to rev' : Tri) → vis ≡ vis' → d ≡ d' → implied_to ≡ weak' → dir ≡ dir' → selected_to ≡ rev' →
      greater (v.user_or user vis (v_parts.implied d implied_to dir)) selected_to ≡ greater (v.user_or user vis' (v_parts.implied d' weak' dir')) rev'
  same_base None vis vis' d d' implied_to weak' dir dir' selected_to rev' a b c e g = cc
  same_base (Some (GivenTruth u)) vis vis' d d' implied_to weak' dir dir' selected_to rev' a b c e g = cc
  same_base (Some (GivenText t)) vis vis' d d' implied_to weak' dir dir' selected_to rev' a b c e g = cc
  same_base (Some (Member m)) vis vis' d d' implied_to weak' dir dir' selected_to rev' a b c e g = cc

  same_interval : (symbol_type : SymbolType) (g : Guarded Bounds) → Sames (n_parts.bounds_names g.what) → v_parts.interval k symbol_type (Some g) ≡ v_parts.interval l symbol_type (Some g)
  same_interval symbol_type g h =
      let a = same_text g.what.low (front (leaf_symbols g.what.low) (leaf_symbols g.what.high) h) in
      let b = same_text g.what.high (back (leaf_symbols g.what.low) (leaf_symbols g.what.high) h) in
      let made : List ℕ → List ℕ → Option Interval = λ x y. Some (record { low = number_or_zero symbol_type x; high = number_or_zero symbol_type y }) in
      ap (λ x. made x (text k g.what.high)) a ∙ ap (made (text l g.what.low)) b

  same_active : (f : SymbolFacts) → AllByRecursion (SameGuarded n_parts.bounds_names) f.ranges → v.active_range tree k f ≡ v.active_range tree l f
  same_active f h =
      same_first n_parts.bounds_names (v_parts.interval k f.symbol_type) (v_parts.interval l f.symbol_type) refl (λ g e. same_interval f.symbol_type g (e.0)) f.ranges h

  same_text_equation : (f : SymbolFacts) (user : Option GivenValue) → AreSame f → text_equation tree k f user ≡ text_equation tree l f user
  same_text_equation f user h =
      let a = same_visible_text f user h.prompts in
      let b = same_default_text f h.defaults in
      cc

  same_truth_equation : (f : SymbolFacts) (user : Option GivenValue) → AreSameTruths f → v.truth_equation tree k f user ≡ v.truth_equation tree l f user
  same_truth_equation f user h =
      let own = h.own in
      let vis = same_upgraded f.symbol_type own _ _ (same_conditions f.prompts (h.common).prompts) in
      let dir = same_upgraded f.symbol_type own _ _ (same_conditions f.dependencies h.dependencies) in
      let selected_to = same_upgraded f.symbol_type own _ _ (same_selector_values f.selectors h.selectors) in
      let implied_to = same_upgraded f.symbol_type own _ _ (same_selector_values f.impliers h.impliers) in
      let d = same_default f (h.common).defaults in
      same_upgraded f.symbol_type own _ _ (same_base user _ _ _ _ _ _ _ _ _ _ vis d implied_to dir selected_to)

  pub same_number_equation : (f : SymbolFacts) (user : Option GivenValue) → AreSameNumbers f → v.number_equation tree k f user ≡ v.number_equation tree l f user
  same_number_equation f user h =
      let a = same_visible_text f user (h.common).prompts in
      let b = same_default_text f (h.common).defaults in
      let r = same_active f h.ranges in
      cc

  -- Choices.
  pub same_shown : (f : SymbolFacts) → AllByRecursion SameCondition f.prompts → v_parts.visible_facts tree k (Some f) ≡ v_parts.visible_facts tree l (Some f)
  same_shown f h = ap (λ t. not (is_n t)) (same_conditions f.prompts h)

  same_among : (m : SymId) (ms : List SymId) → AllByRecursion SameVisible ms → (list_any (same_symbol m) ms && v.visible tree k m) ≡ (list_any (same_symbol m) ms && v.visible tree l m)
  same_among m [] h = refl
  same_among m (x ∷ ms) h =
      elim (cases_Bool (same_symbol m x)) [
        | inl t ↦
            let e = same_symbol-true m x t in
            let w = ap (v.visible tree k) e ∙ h.0 ∙ ap (v.visible tree l) (sym e) in
            ap (λ b. (list_any (same_symbol m) (x ∷ ms)) && b) w
        | inr f ↦
            let r = same_among m ms h.1 in
            ap (λ b. (b || list_any (same_symbol m) ms) && v.visible tree k m) f ∙ r ∙ sym (ap (λ b. (b || list_any (same_symbol m) ms) && v.visible tree l m) f)
      ]

  module _ (c : ChoiceFacts) (same : IsSameChoice c) where
    same_visible_member : (m : SymId) → v.visible_member tree k c m ≡ v.visible_member tree l c m
    same_visible_member m = same_among m c.members same.members

    same_unselected : unselected tree k c ≡ unselected tree l c
    same_unselected =
        let first =
        found_alike (λ (g : Guarded SymId). SameCondition g.when)
        (λ g. not (is_n (v.condition tree k g.when)) && v.visible_member tree k c g.what)
        (λ g. not (is_n (v.condition tree l g.when)) && v.visible_member tree l c g.what)
        (v_parts.what_of) (v_parts.what_of) refl
        (λ g a. let b = same_visible_member g.what in cc)
        (λ g a. refl)
        c.defaults same.defaults
        in
        let any = found_alike SameVisible (v.visible tree k) (v.visible tree l) (λ o. o) (λ o. o) refl (λ m e. e) (λ m e. refl) c.members same.members in
        cc

    same_chosen_member : (user : Option GivenValue) → chosen_member tree k c user ≡ chosen_member tree l c user
    same_chosen_member None = refl
    same_chosen_member (Some (GivenTruth t)) = refl
    same_chosen_member (Some (GivenText t)) = refl
    same_chosen_member (Some (Member m)) = ap (λ b. cond b (Some m) None) (same_visible_member m)

  pub same_selected : (c : ChoiceFacts) (user : Option GivenValue) → IsSameChoice c → v.selected tree k (Some c) user ≡ v.selected tree l (Some c) user
  same_selected c user h =
      let mode = h.mode in
      let un = same_unselected c h in
      let ch = same_chosen_member c h user in
      cc

  pub same_by_type : (s : SymId) (f : SymbolFacts) (symbol_type : SymbolType) (user : Option GivenValue) → AreSameBy f symbol_type →
      v.by_type tree k s f symbol_type user ≡ v.by_type tree l s f symbol_type user
  same_by_type s f Undefined user h = refl
  same_by_type s f IsBool user h = ap Truth (same_truth_equation f user h)
  same_by_type s f Tristate user h = ap Truth (same_truth_equation f user h)
  same_by_type s f Str user h = ap (TextValue Str) (same_text_equation f user h)
  same_by_type s f Int user h = ap (TextValue Int) (same_number_equation f user h)
  same_by_type s f Hex user h = ap (TextValue Hex) (same_number_equation f user h)
