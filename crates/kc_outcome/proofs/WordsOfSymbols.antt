-- The words of an explanation of a symbol outside a choice decide its value; the parts of every explanation.
use Rattle.std.proofs.Common.{◌≡◌, refl, ap, sym, subst, ◌∙◌, inl, inr, true, false, true≢false, append_assoc}
use Rattle.std.proofs.lemmas.Bool.{cases_Bool}
use Rattle.std.proofs.lemmas.List.{map-append}
use Rattle.std.proofs.lemmas.Option.{none-some}
use Rattle.std.specs.List.{AllByRecursion, flat_map}
use Rattle.std.specs.Prelude.{Bool, List, None, Option, Some, [], if◌then◌else◌, is_some, map, not, option_map, unwrap_or, ◌&&◌, ◌++◌, ◌||◌, ◌∷◌, ◌≡◌, ◌⊎◌, ℕ}
use Rattle.kc_language.specs.{ConfigFile.{RefusedLine, UserInput, place_at, plain_line, plain_refused}, Expressions.{SymbolValue, TextValue, Truth, truth_of_value}, Statements.{Numbered}, Symbols.{SymbolFacts, TreeFacts, definitions_of, holds_text, is_selectable, listed, symbol_facts}, Values.{GivenText, GivenTruth, GivenValue, Member, SymbolPlace, active_range, by_type, conditions, default_text, facts, first_met, implied_value, is_n, is_visible, modules_value, number_equation, selected_to, truth_equation, type_in, upgrade, upgraded, user_or, visibility, visible_text}, declared.{expressions.{SymId.{SymId}, SymbolType.{SymbolType, TheVariants.{Bool as IsBool, Hex, Int, Str, Tristate, Undefined}}, Tri.{Tri, TheVariants.{M, N, Y}}}, symbols.SelectOrImply.{SelectOrImply}}}
use Rattle.kc_outcome.specs.Explanations.{Fact, Holds, IsGivenByLine, ModulesAre, NotAllowed, UserGave, default_facts, dependency_facts, facts_by, is_users, is_y, prompt_facts, prompt_lines, raise_facts, range_facts, text_facts, truth_facts, user_facts, value_facts, words_of}
use Rattle.kc_outcome.proofs.FactLists.{both, flat, mapped}
use Rattle.kc_outcome.proofs.SameParts as enough
use Rattle.kc_outcome.proofs.SameParts.{base_same, text_at_n, user_at_n}
use Rattle.kc_outcome.proofs.FactsHold.{defaults_hold, dependencies_hold, prompt_holds, ranges_hold}
use Rattle.kc_outcome.proofs.SameEquation as equation
use Rattle.kc_outcome.proofs.SameEquation.{unwrapped}
use Rattle.kc_outcome.proofs.SameWords as same
use Rattle.kc_outcome.proofs.SameWords.{implied_greatest, mapped_to, selected_greatest, two_parts, with_nil}
use Rattle.kc_outcome.proofs.TriLemmas.{n_of}
use Rattle.kc_outcome.proofs.WordLists.{Fail, before_first, heads}
use Rattle.kc_outcome.proofs.WordsTell as tell
use Rattle.kc_outcome.proofs.WordsTell.{ends_in_value, text_given, truth_given, user_words}

-- ---- What the user gave, where only a truth value or only a text counts
user_or_truth : (g : Option GivenValue) (vis t : Tri) → user_or g vis t ≡ user_or (option_map GivenTruth (truth_given g)) vis t
user_or_truth None vis t = refl
user_or_truth (Some (GivenTruth u)) vis t = refl
user_or_truth (Some (GivenText x)) vis t = refl
user_or_truth (Some (Member m)) vis t = refl

visible_text_text : (g : Option GivenValue) (vis : Tri) → visible_text g vis ≡ visible_text (option_map GivenText (text_given g)) vis
visible_text_text None vis = refl
visible_text_text (Some (GivenTruth u)) vis = refl
visible_text_text (Some (GivenText x)) vis = refl
visible_text_text (Some (Member m)) vis = refl

abbrev gives_truth : Option GivenValue → Bool
gives_truth user = elim user [ Some (GivenTruth u) ↦ true | _ ↦ false ]

gives_truth_is : (g : Option GivenValue) → gives_truth g ≡ is_some (truth_given g)
gives_truth_is None = refl
gives_truth_is (Some (GivenTruth u)) = refl
gives_truth_is (Some (GivenText x)) = refl
gives_truth_is (Some (Member m)) = refl

pub and_false : (b : Bool) → (b && false) ≡ false
and_false true = refl
and_false false = refl

-- The first of some words is the same if both lists have it.
first_word : {F : Type 0} (word : F → List ℕ) (x1 y1 x2 y2 : Bool) (u v : F) (m n : List F) → y1 ≡ true → y2 ≡ true →
    map word ((if x1 || y1 then u ∷ [] else []) ++ m) ≡ map word ((if x2 || y2 then v ∷ [] else []) ++ n) → word u ≡ word v
first_word word true y1 true y2 u v m n f g e = (heads e).0
first_word word true y1 false true u v m n f g e = (heads e).0
first_word word false true true y2 u v m n f g e = (heads e).0
first_word word false true false true u v m n f g e = (heads e).0
first_word word x1 y1 false false u v m n f g e = absurd (true≢false (sym g))
first_word word false false x2 y2 u v m n f g e = absurd (true≢false (sym f))

-- An upgrade of m to y changes no n.
upgraded_n : (tree : TreeFacts) (v : SymId → SymbolValue) (kind : SymbolType) (t : Tri) → is_n (upgraded tree v kind t) ≡ is_n t
upgraded_n tree v Tristate t = by (is_n (modules_value v tree.modules)) t
  where
    by : (b : Bool) (t : Tri) → is_n (if b then upgrade t else t) ≡ is_n t
    by true N = refl
    by true M = refl
    by true Y = refl
    by false t = refl
upgraded_n tree v _ N = refl
upgraded_n tree v _ M = refl
upgraded_n tree v _ Y = refl

module _ (is_raw : Bool) (ss : List Numbered) (tree : TreeFacts) (a b : UserInput) (k w : SymId → SymbolValue) where
  abbrev word : Fact → List ℕ
  word = words_of is_raw tree

  abbrev Each : List Fact → Type 0
  Each = AllByRecursion (Holds ss tree b w)

  module _ (s : SymId) where
    abbrev f : SymbolFacts
    f = symbol_facts ss s

    abbrev mine : Option GivenValue
    mine = place_at a.places (SymbolPlace s.0)

    abbrev others : Option GivenValue
    others = place_at b.places (SymbolPlace s.0)

    -- What the user gave is the same where it counts, or the symbol is not visible.
    abbrev SameUser : {X : Type 0} → (Option GivenValue → Option X) → Type 0
    SameUser counted = (visibility tree k f ≡ N) ⊎ (counted mine ≡ counted others)

    user_or_same : SameUser truth_given → (t : Tri) → user_or mine (visibility tree k f) t ≡ user_or others (visibility tree k f) t
    user_or_same (inl e) t = ap (λ v. user_or mine v t) e ∙ user_at_n mine t ∙ sym (ap (λ v. user_or others v t) e ∙ user_at_n others t)
    user_or_same (inr e) t = user_or_truth mine (visibility tree k f) t ∙ ap (λ g. user_or (option_map GivenTruth g) (visibility tree k f) t) e
        ∙ sym (user_or_truth others (visibility tree k f) t)

    visible_text_same : SameUser text_given → visible_text mine (visibility tree k f) ≡ visible_text others (visibility tree k f)
    visible_text_same (inl e) = ap (visible_text mine) e ∙ text_at_n mine ∙ sym (ap (visible_text others) e ∙ text_at_n others)
    visible_text_same (inr e) = visible_text_text mine (visibility tree k f) ∙ ap (λ g. visible_text (option_map GivenText g) (visibility tree k f)) e
        ∙ sym (visible_text_text others (visibility tree k f))

    abbrev Even : SymbolType → Type 0
    Even = equation.Even tree k w f mine others

    of_type : (kind : SymbolType) → f.symbol_type ≡ kind → Even kind → Even f.symbol_type
    of_type = equation.of_type tree k w f mine others

    -- The defaults whose words read the same hold under the second input.
    abbrev defaults : UserInput → (SymId → SymbolValue) → List Fact
    defaults input v = default_facts ss tree input v s f.symbol_type

    default_same : (r t : List (List ℕ)) → map word (defaults a k) ++ r ≡ map word (defaults b w) ++ t → Each (defaults a k) × (r ≡ t)
    default_same r t e = let parts = same.defaults_aligned is_raw ss tree a b k w s f.symbol_type r t e in
        (subst Each (sym parts.0) (defaults_hold ss tree b w s f.symbol_type), parts.1)

    -- A type, where the modules symbol is the same if the type asks for it.
    module _ (even : Even f.symbol_type) (prompts : conditions tree k f.prompts ≡ conditions tree w f.prompts) where
      users_same : SameUser truth_given → is_users tree k f mine ≡ is_users tree w f others
      users_same (inl e) = let other = sym (equation.up tree k w f mine others even _ _ prompts) ∙ e in
          ap (λ v. not (is_n v) && gives_truth mine) e ∙ sym (ap (λ v. not (is_n v) && gives_truth others) other)
      users_same (inr e) = ap (λ v. not (is_n v) && gives_truth mine) (equation.up tree k w f mine others even _ _ prompts)
          ∙ ap (λ g. is_visible tree w f && g) (gives_truth_is mine ∙ ap is_some e ∙ sym (gives_truth_is others))

      abbrev imply : UserInput → (SymId → SymbolValue) → List Fact
      imply input v = raise_facts ss tree input v SelectOrImply.Imply s

      abbrev later_if : UserInput → (SymId → SymbolValue) → Bool → List Fact
      later_if input v counts = if counts then [] else defaults input v ++ imply input v

      implied : holds_text f.symbol_type ≡ false → conditions tree k f.dependencies ≡ conditions tree w f.dependencies →
          map word (defaults a k ++ imply a k) ≡ map word (defaults b w ++ imply b w) → implied_value tree k f ≡ implied_value tree w f
      implied plain dependencies e =
          let parts = default_same _ _ (two_parts is_raw ss tree a b k w (defaults a k) (defaults b w) _ _ e) in
          let default = (enough.defaults_same ss tree a b k w f.symbol_type s parts.0).0 plain in
          let values = (same.raised_same is_raw ss tree a b k w SelectOrImply.Imply s [] [] (with_nil is_raw ss tree a b k w (imply a k) (imply b w) parts.1)).0 in
          equation.implied_by tree k w f mine others even default (implied_greatest ss tree a k s ∙ values ∙ sym (implied_greatest ss tree b w s)) dependencies

      truth : holds_text f.symbol_type ≡ false → conditions tree k f.dependencies ≡ conditions tree w f.dependencies → SameUser truth_given →
          map word (truth_facts ss tree a k s f) ≡ map word (truth_facts ss tree b w s f) → truth_equation tree k f mine ≡ truth_equation tree w f others
      truth plain dependencies user e =
          let select = λ (input : UserInput) (v : SymId → SymbolValue). raise_facts ss tree input v SelectOrImply.Select s in
          let parts = same.raised_same is_raw ss tree a b k w SelectOrImply.Select s _ _ (two_parts is_raw ss tree a b k w (select a k) (select b w) _ _ e) in
          let selectors = selected_greatest ss tree a k s ∙ parts.0 ∙ sym (selected_greatest ss tree b w s) in
          let counts = is_users tree k f mine || is_y (selected_to tree k f) in
          let tests : counts ≡ (is_users tree w f others || is_y (selected_to tree w f)) =
          ap (λ u. u || is_y (selected_to tree k f)) (users_same user)
          ∙ ap (λ t. is_users tree w f others || is_y t) (equation.up tree k w f mine others even _ _ selectors) in
          let rest : map word (later_if a k counts) ≡ map word (later_if b w counts) = parts.1 ∙ ap (λ c. map word (later_if b w c)) (sym tests) in
          equation.truth_by tree k w f mine others even selectors prompts (user_or_same user) (λ c. implied plain dependencies (rw c at rest))

      -- A string, int or hex
      shown_same : SameUser text_given → visible_text mine (visibility tree k f) ≡ visible_text others (visibility tree w f)
      shown_same user = equation.shown_by tree k w f mine others even prompts (visible_text_same user)

      abbrev texts_by : UserInput → (SymId → SymbolValue) → Option (List ℕ) → List Fact
      texts_by input v used = text_facts ss tree input v s f used

      texts : holds_text f.symbol_type ≡ true → (x y : Option (List ℕ)) → x ≡ y → map word (texts_by a k x) ≡ map word (texts_by b w y) →
          x ≡ None → default_text k (first_met tree k f.defaults) ≡ default_text w (first_met tree w f.defaults)
      texts plain None None is e none =
          (enough.defaults_same ss tree a b k w f.symbol_type s (default_same [] [] (with_nil is_raw ss tree a b k w (defaults a k) (defaults b w) e)).0).1 plain
      texts plain None (Some t) is e none = absurd (none-some t is)
      texts plain (Some t) y is e none = absurd (none-some t (sym none))

      text_same : holds_text f.symbol_type ≡ true → SameUser text_given →
          map word (texts_by a k (visible_text mine (visibility tree k f))) ≡ map word (texts_by b w (visible_text others (visibility tree w f))) →
          unwrap_or (visible_text mine (visibility tree k f)) (default_text k (first_met tree k f.defaults))
          ≡ unwrap_or (visible_text others (visibility tree w f)) (default_text w (first_met tree w f.defaults))
      text_same plain user e = unwrapped _ _ _ _ (shown_same user) (texts plain _ _ (shown_same user) e)

      abbrev ranges : UserInput → (SymId → SymbolValue) → List Fact
      ranges input v = range_facts ss tree input v s f.symbol_type

      number_same : holds_text f.symbol_type ≡ true → SameUser text_given →
          map word (ranges a k ++ texts_by a k (equation.used_by tree k w f mine others k mine))
          ≡ map word (ranges b w ++ texts_by b w (equation.used_by tree k w f mine others w others)) → number_equation tree k f mine ≡ number_equation tree w f others
      number_same plain user e =
          let parts = same.ranges_aligned is_raw ss tree a b k w s f.symbol_type _ _ (two_parts is_raw ss tree a b k w (ranges a k) (ranges b w) _ _ e) in
          let range : active_range tree k f ≡ active_range tree w f =
          enough.ranges_same ss tree a b k w f.symbol_type s (subst Each (sym parts.0) (ranges_hold ss tree b w s f.symbol_type)) in
          let used = equation.used_same tree k w f mine others range (shown_same user) in
          equation.number_by tree k w f mine others range used (texts plain _ _ used parts.1)

    -- ---- By type
    abbrev SameGiven : Type 0
    SameGiven = (visibility tree k f ≡ N) ⊎ (user_words is_raw f.symbol_type mine ≡ user_words is_raw f.symbol_type others)

    truths_given : is_selectable f.symbol_type ≡ true → SameGiven → SameUser truth_given
    truths_given plain (inl e) = inl e
    truths_given plain (inr e) = inr (tell.same_truth_given is_raw f.symbol_type plain mine others e)

    texts_given : is_selectable f.symbol_type ≡ false → SameGiven → SameUser text_given
    texts_given plain (inl e) = inl e
    texts_given plain (inr e) = inr (tell.same_text_given is_raw f.symbol_type plain mine others e)

    by_kind : (kind : SymbolType) → f.symbol_type ≡ kind → conditions tree k f.prompts ≡ conditions tree w f.prompts →
        conditions tree k f.dependencies ≡ conditions tree w f.dependencies → SameGiven → map word (value_facts ss tree a k s f kind) ≡ map word (value_facts ss tree b w s f kind) →
        by_type tree k s f kind mine ≡ by_type tree w s f kind others
    by_kind Undefined is prompts dependencies user e = refl
    by_kind IsBool is prompts dependencies user e =
        ap Truth (truth (of_type IsBool is (λ t. refl)) prompts (ap holds_text is) dependencies (truths_given (ap is_selectable is) user) e)
    by_kind Tristate is prompts dependencies user e =
        let own = λ (v : SymId → SymbolValue). map (λ m. ModulesAre m (truth_of_value (v m))) (listed tree.modules) in
        let parts = same.modules_aligned is_raw ss tree a b k w (listed tree.modules) _ _
        (two_parts is_raw ss tree a b k w (own k) (own w) (truth_facts ss tree a k s f) (truth_facts ss tree b w s f) e) in
        let hold : Each (own k) = subst Each (sym parts.0) (mapped (Holds ss tree b w) (λ m. ModulesAre m (truth_of_value (w m))) (listed tree.modules) (λ m. refl)) in
        let modules = enough.modules_same ss tree a b k w tree.modules hold in
        ap Truth (truth (of_type Tristate is (enough.upgraded_same ss tree a b k w modules Tristate)) prompts (ap holds_text is) dependencies
        (truths_given (ap is_selectable is) user) parts.1)
    by_kind Str is prompts dependencies user e = ap (TextValue Str) (text_same (of_type Str is (λ t. refl)) prompts (ap holds_text is) (texts_given (ap is_selectable is) user) e)
    by_kind Int is prompts dependencies user e = ap (TextValue Int) (number_same (of_type Int is (λ t. refl)) prompts (ap holds_text is) (texts_given (ap is_selectable is) user) e)
    by_kind Hex is prompts dependencies user e = ap (TextValue Hex) (number_same (of_type Hex is (λ t. refl)) prompts (ap holds_text is) (texts_given (ap is_selectable is) user) e)

    -- ---- The parts of the list: what the user gave, up to the line of the first dependency; the dependencies, the prompts, and the rest
    abbrev pub own_facts : UserInput → (SymId → SymbolValue) → List Fact
    own_facts input v = user_facts ss tree input v s f

    abbrev pub dependency_parts_of : UserInput → (SymId → SymbolValue) → List ℕ → List Fact
    dependency_parts_of input v js = flat_map (dependency_facts ss tree input v) js

    abbrev pub prompts_of : UserInput → (SymId → SymbolValue) → List Fact
    prompts_of input v = flat_map (prompt_facts ss tree input v) (prompt_lines ss (definitions_of ss s))

    abbrev pub facts_for : UserInput → (SymId → SymbolValue) → Option ℕ → List Fact
    facts_for input v choice = own_facts input v ++ dependency_parts_of input v (definitions_of ss s) ++ prompts_of input v ++ facts_by ss tree input v s f choice

    four_parts : (u d p y : List Fact) → map word (u ++ d ++ p ++ y) ≡ map word u ++ (map word d ++ (map word p ++ map word y))
    four_parts u d p y =
        map-append word (u ++ d ++ p) y ∙ ap (λ l. l ++ map word y) (map-append word (u ++ d) p ∙ ap (λ l. l ++ map word p) (map-append word u d))
        ∙ append_assoc (map word u ++ map word d) (map word p) (map word y) ∙ append_assoc (map word u) (map word d) (map word p ++ map word y)

    -- No line about what the user gave ends like that of a dependency.
    own_fail : (input : UserInput) (v : SymId → SymbolValue) → IsGivenByLine is_raw tree input s → Fail ends_in_value (map word (own_facts input v))
    own_fail input v given =
        mapped_to (λ words. ends_in_value words ≡ false) word (own_facts input v) (both Ends _ (map (NotAllowed s) (listed (plain_refused input s)))
        (of (is_some (place_at input.places (SymbolPlace s.0)) || (not (is_some f.choice) && is_visible tree v f)))
        (refused (plain_refused input s)))
      where
        Ends : Fact → Type 0
        Ends fact = ends_in_value (word fact) ≡ false

        of : (c : Bool) → AllByRecursion (λ fact. ends_in_value (word fact) ≡ false)
            (if c then UserGave (plain_line input input.lines s) (SymbolPlace s.0) (place_at input.places (SymbolPlace s.0)) ∷ [] else [])
        of true = (tell.user_ends is_raw (type_in (facts tree s)) (place_at input.places (SymbolPlace s.0)) given, tt)
        of false = tt

        refused : (o : Option RefusedLine) → AllByRecursion (λ fact. ends_in_value (word fact) ≡ false) (map (NotAllowed s) (listed o))
        refused None = tt
        refused (Some line) = (tell.not_allowed_ends is_raw tree s line, tt)

    first_dependency : (js : List ℕ) → (js ≡ [] → ⊥) → (us vs y z : List (List ℕ)) → Fail ends_in_value us → Fail ends_in_value vs →
        us ++ (map word (dependency_parts_of a k js) ++ y) ≡ vs ++ (map word (dependency_parts_of b w js) ++ z) →
        (us ≡ vs) × (map word (dependency_parts_of a k js) ++ y ≡ map word (dependency_parts_of b w js) ++ z)
    first_dependency [] some us vs y z p q e = absurd (some refl)
    first_dependency (i ∷ js) some us vs y z p q e =
        before_first ends_in_value us vs _ _ _ _ p q (tell.dependency_ends is_raw tree i _) (tell.dependency_ends is_raw tree i _) e

    pub record SameList (choice : Option ℕ) : Type 0 where
      pub own : map word (own_facts a k) ≡ map word (own_facts b w)
      pub prompts : conditions tree k f.prompts ≡ conditions tree w f.prompts
      pub dependencies : conditions tree k f.dependencies ≡ conditions tree w f.dependencies
      pub rest : map word (facts_by ss tree a k s f choice) ≡ map word (facts_by ss tree b w s f choice)

    pub same_list : (choice : Option ℕ) → IsGivenByLine is_raw tree a s → IsGivenByLine is_raw tree b s → (definitions_of ss s ≡ [] → ⊥) →
        map word (facts_for a k choice) ≡ map word (facts_for b w choice) → SameList choice
    same_list choice first second some e =
        let js = definitions_of ss s in let ps = prompt_lines ss js in
        let parts = first_dependency js some (map word (own_facts a k)) (map word (own_facts b w)) _ _ (own_fail a k first) (own_fail b w second)
        (sym (four_parts (own_facts a k) (dependency_parts_of a k js) (prompts_of a k) (facts_by ss tree a k s f choice)) ∙ e
        ∙ four_parts (own_facts b w) (dependency_parts_of b w js) (prompts_of b w) (facts_by ss tree b w s f choice)) in
        let depends = same.dependencies_aligned is_raw ss tree a b k w js _ _ parts.1 in
        let shown = same.prompts_aligned is_raw ss tree a b k w ps _ _ depends.1 in
        let dependencies_hold : Each (dependency_parts_of a k js) =
        subst Each (sym depends.0) (flat (Holds ss tree b w) (dependency_facts ss tree b w) js (dependencies_hold ss tree b w)) in
        let prompts_hold : Each (prompts_of a k) = subst Each (sym shown.0) (flat (Holds ss tree b w) (prompt_facts ss tree b w) ps (prompt_holds ss tree b w)) in
        record {
          own = parts.0;
          prompts = enough.visible_same ss tree a b k w s prompts_hold;
          dependencies = enough.dependencies_same ss tree a b k w js dependencies_hold;
          rest = shown.1;
        }

    -- Outside a choice, what the user gave a visible symbol is told.
    given_same : f.choice ≡ None → facts tree s ≡ Some f → conditions tree k f.prompts ≡ conditions tree w f.prompts →
        map word (own_facts a k) ≡ map word (own_facts b w) → SameGiven
    given_same outside is prompts e = elim (cases_Bool (is_n (visibility tree k f))) [
      | inl n ↦ inl (n_of (visibility tree k f) n)
      | inr shown ↦
          let also : is_n (visibility tree w f) ≡ false =
          upgraded_n tree w f.symbol_type (conditions tree w f.prompts) ∙ ap is_n (sym prompts) ∙ sym (upgraded_n tree k f.symbol_type (conditions tree k f.prompts)) ∙ shown in
          let could = λ (v : SymId → SymbolValue) (e : is_n (visibility tree v f) ≡ false).
          ap (λ o. not (is_some o) && is_visible tree v f) outside ∙ ap (λ n. not n) e in
          let told = first_word word _ _ _ _ _ _ _ _ (could k shown) (could w also) e in
          inr (sym (ap (λ o. user_words is_raw (type_in o) mine) is) ∙ told ∙ ap (λ o. user_words is_raw (type_in o) others) is)
    ]

    pub outside : f.choice ≡ None → facts tree s ≡ Some f → SameList None → by_type tree k s f f.symbol_type mine ≡ by_type tree w s f f.symbol_type others
    outside none is list = by_kind f.symbol_type refl list.prompts list.dependencies (given_same none is list.prompts list.own) list.rest
