-- The warnings of one more symbol, which are none for a bool or tristate that is n.
use Rattle.std.proofs.{Common.{Bool, List, None, Option, Some, [], ap, append-nil, arith, cond, false, get_or, length, map, refl, sym, take, true, ℕ, ◌++◌, ◌+◌, ◌<◌, ◌∙◌, ◌∷◌, ◌≡◌}, lemmas.List.{FromFn.get_or-map-range_with_len, flat_map_more, take_more}}
use Rattle.std.specs.{List.{flat_map, range_with_len}, Prelude.slice_index_or}
use Rattle.kc_language.specs.{ConfigFile.{Places, place_at}, Expressions.{SymbolValue, Truth, greater, symbol, truth_of_value}, Symbols.{SymbolFacts, TreeFacts, Warning}, Texts.{select_warnings, warnings_by_type, warnings_of}, Values.{GivenValue, SymbolPlace, above, by_type, direct, facts, implied_value, is_n, known_from, modules_value, name, name_count, selected_to, truth_equation, type_in, upgrade, upgraded, user_or, visibility}, declared.expressions.{SymId.SymId, SymbolType.{SymbolType, TheVariants.{Bool as IsBool, Hex, Int, Str, Tristate, Undefined}}, Tri.{TheVariants.{M, N, Y}, Tri}}}
use Rattle.kc_expr.specs.Value.{value_by_type}
use Rattle.kc_values.specs.{PartsOfTexts.{selected_warning, warnings_at, warnings_by_choice}, Table.{known_in, text_in, tri_in, value_in}, declared.table.Value.Value}
use Rattle.kc_solve.specs.{Flags.{IsSolvedOwn, is_off}, Kept.valuation}
use Rattle.kc_solve.proofs.TableSteps.{known_seen}

-- what a full table tells of each symbol and name is what its valuation says
pub tables_known : (tree : TreeFacts) (values : List (Option Value)) → length values ≡ name_count tree → known_in tree values ≡ known_from tree (valuation tree values)
tables_known tree values l = λ i s. known_seen tree values l s i

-- the warnings of the symbol that stands at a place
pub one_more_warned : (tree : TreeFacts) (values : List (Option Value)) (u : Places) (ids : List SymId) (i : ℕ) (f : SymbolFacts) (own : Option GivenValue) (old new : List Warning) →
    length values ≡ name_count tree → i < length ids → facts tree (get_or ids i (symbol 0)) ≡ Some f → own ≡ place_at u (SymbolPlace (get_or ids i (symbol 0)).0) →
    old ≡ flat_map (λ (s : SymId). warnings_at tree (place_at u) (valuation tree values) s.0) (take i ids) →
    new ≡ old ++ warnings_of tree (known_in tree values) (name tree (get_or ids i (symbol 0))) (Some f) own →
    new ≡ flat_map (λ (s : SymId). warnings_at tree (place_at u) (valuation tree values) s.0) (take (i + 1) ids)
one_more_warned tree values u ids i f own old new full below at given e n =
    let id : SymId = get_or ids i (symbol 0) in
    let of_one = λ (s : SymId). warnings_at tree (place_at u) (valuation tree values) s.0 in
    let this : warnings_of tree (known_in tree values) (name tree id) (Some f) own ≡ of_one id =
    ap (λ o. warnings_of tree (known_in tree values) (name tree id) o own) (sym at)
    ∙ ap (λ k. warnings_of tree k (name tree id) (facts tree id) own) (tables_known tree values full)
    ∙ ap (warnings_of tree (known_from tree (valuation tree values)) (name tree id) (facts tree id)) given
    in
    n ∙ ap (λ x. x ++ warnings_of tree (known_in tree values) (name tree id) (Some f) own) e
    ∙ ap (λ x. flat_map of_one (take i ids) ++ x) this
    ∙ flat_map_more of_one [] (take i ids) id
    ∙ ap (flat_map of_one) (sym (take_more ids i (symbol 0) below))

-- the steps of an equation that gives n
only_n : (t : Tri) → is_n t ≡ true → t ≡ N
only_n N e = refl
only_n M e = cc
only_n Y e = cc

upgrade_is_n : (b : Bool) (t : Tri) → cond b (upgrade t) t ≡ N → t ≡ N
upgrade_is_n b N e = refl
upgrade_is_n true M e = cc
upgrade_is_n false M e = e
upgrade_is_n true Y e = cc
upgrade_is_n false Y e = e

greater_is_n : (a b : Tri) → greater a b ≡ N → b ≡ N
greater_is_n a N e = refl
greater_is_n N M e = e
greater_is_n M M e = cc
greater_is_n Y M e = cc
greater_is_n N Y e = e
greater_is_n M Y e = cc
greater_is_n Y Y e = cc

-- a bool or tristate outside a choice that is n is not selected, and so not above its dependency
module _ (tree : TreeFacts) (known : SymId → SymbolValue) (s : SymId) (f : SymbolFacts) (called : List ℕ) (t : Tri) (bytes : List ℕ) (own : Option GivenValue) where
  upgraded_is_n : (kind : SymbolType) (x : Tri) → upgraded tree known kind x ≡ N → x ≡ N
  upgraded_is_n Undefined x e = upgrade_is_n true x e
  upgraded_is_n IsBool x e = upgrade_is_n true x e
  upgraded_is_n Tristate x e = upgrade_is_n (is_n (modules_value known tree.modules)) x e
  upgraded_is_n Str x e = upgrade_is_n true x e
  upgraded_is_n Int x e = upgrade_is_n true x e
  upgraded_is_n Hex x e = upgrade_is_n true x e

  not_selected : is_n t ≡ true → known s ≡ Truth t → known s ≡ Truth (truth_equation tree known f own) → select_warnings tree known called f ≡ []
  not_selected off here solved =
      let base = user_or own (visibility tree known f) (implied_value tree known f) in
      let to = selected_to tree known f in
      let gives : truth_equation tree known f own ≡ N = ap truth_of_value (sym solved ∙ here) ∙ only_n t off in
      let none : to ≡ N = greater_is_n base to (upgraded_is_n f.symbol_type (greater base to) gives) in
      let limit = direct tree known f in
      ap (λ (x : Tri). cond (above x limit) (selected_warning called x limit ∷ []) []) none

  none_by_type : (kind : SymbolType) → is_off kind t ≡ true → known s ≡ value_by_type kind t bytes → known s ≡ by_type tree known s f kind own → warnings_by_type tree known called f kind own ≡ []
  none_by_type Undefined off here solved = refl
  none_by_type IsBool off here solved = not_selected off here solved
  none_by_type Tristate off here solved = not_selected off here solved
  none_by_type Str off here solved = refl
  none_by_type Int off here solved = cc
  none_by_type Hex off here solved = cc

  none_by_choice : (c : Option ℕ) → is_off f.symbol_type t ≡ true → known s ≡ value_by_type f.symbol_type t bytes → IsSolvedOwn tree known s f c own → warnings_by_choice tree known called f c own ≡ []
  none_by_choice None off here solved = none_by_type f.symbol_type off here solved
  none_by_choice (Some c) off here solved = refl

  pub none_if_off : is_off f.symbol_type t ≡ true → known s ≡ value_by_type f.symbol_type t bytes → IsSolvedOwn tree known s f f.choice own → warnings_of tree known called (Some f) own ≡ []
  none_if_off off here solved = none_by_choice f.choice off here solved

-- the same at a place: nothing is added
pub one_more_off : (tree : TreeFacts) (values : List (Option Value)) (u : Places) (ids : List SymId) (i : ℕ) (f : SymbolFacts) (own : Option GivenValue) (old : List Warning) →
    length values ≡ name_count tree → i < length ids → facts tree (get_or ids i (symbol 0)) ≡ Some f → own ≡ place_at u (SymbolPlace (get_or ids i (symbol 0)).0) →
    old ≡ flat_map (λ (s : SymId). warnings_at tree (place_at u) (valuation tree values) s.0) (take i ids) →
    is_off f.symbol_type (tri_in (value_in values (get_or ids i (symbol 0)))) ≡ true → IsSolvedOwn tree (known_in tree values) (get_or ids i (symbol 0)) f f.choice own →
    old ≡ flat_map (λ (s : SymId). warnings_at tree (place_at u) (valuation tree values) s.0) (take (i + 1) ids)
one_more_off tree values u ids i f own old full below at given e off solved =
    let id : SymId = get_or ids i (symbol 0) in
    let value = value_in values id in
    let bytes = text_in value (name tree id) in
    let here : known_in tree values id ≡ value_by_type f.symbol_type (tri_in value) bytes = ap (λ o. value_by_type (type_in o) (tri_in value) bytes) at in
    let none = none_if_off tree (known_in tree values) id f (name tree id) (tri_in value) bytes own off here solved in
    one_more_warned tree values u ids i f own old old full below at given e (sym (append-nil old) ∙ ap (λ x. old ++ x) (sym none))
