-- A bool or tristate outside a choice that is not n is written.
use Rattle.std.proofs.{Common.{Bool, List, None, Option, Some, ap, cond, false, inl, inr, length, refl, sym, true, ℕ, ◌∙◌, ◌≡◌}, lemmas.{Bool.cases_Bool, Option.slice_get_within}}
use Rattle.std.specs.Prelude.{not, ◌&&◌, ◌||◌}
use Rattle.kc_language.specs.{Expressions.{SymbolValue, Truth, greater, lesser, truth_of_value}, Symbols.{SymbolFacts, TreeFacts}, Values.{GivenText, GivenTruth, GivenValue, Member, Solves, SymbolPlace, UserPlace, by_type, default_value, direct, equations, facts, first_met, implied_to, is_n, modules_value, name, name_count, selected_to, truth_equation, type_in, upgraded, user_or, visibility, written_by_type, written_truth}, declared.expressions.{SymId.SymId, SymbolType.{SymbolType, TheVariants.{Bool as IsBool, Hex, Int, Str, Tristate, Undefined}}, Tri.{TheVariants.{M, N, Y}, Tri}}}
use Rattle.kc_expr.specs.Value.{value_by_type}
use Rattle.kc_tree.specs.{Layouts.facts_of, Places.mode_view, declared.rows.Symbol.Symbol}
use Rattle.kc_values.specs.{PartsOfValues.{written_by_choice, written_facts}, Table.{text_in, tri_in, value_in}, TableFacts.{IsRowOf, known_at}, declared.table.Table.Table}
use Rattle.kc_solve.specs.Flags.{IsSolvedAt, IsSolvedOwn, is_on, values_in}
use Rattle.kc_solve.proofs.{FlagSteps.solved_here, TableSteps.row_facts}

-- what the user gives for a hidden symbol does not count
hidden : (own : Option GivenValue) (x : Tri) → user_or own N x ≡ x
hidden None x = refl
hidden (Some (GivenTruth u)) x = refl
hidden (Some (GivenText bytes)) x = refl
hidden (Some (Member m)) x = refl

-- what is not written is worth n, from its visibility, its default, and what it is selected to, implied to and depends on
unwritten_is_n : (own : Option GivenValue) (shown default selected implied limit : Tri) →
    (not (is_n shown) || (not (is_n default) || (not (is_n selected) || (not (is_n implied) && not (is_n limit))))) ≡ false →
    greater (user_or own shown (cond (is_n implied) default (lesser (greater default implied) limit))) selected ≡ N
unwritten_is_n own N N N N limit e = ap (λ x. greater x N) (hidden own N)
unwritten_is_n own N N N M N e = ap (λ x. greater x N) (hidden own N)
unwritten_is_n own N N N Y N e = ap (λ x. greater x N) (hidden own N)
unwritten_is_n own N N N M M e = cc
unwritten_is_n own N N N M Y e = cc
unwritten_is_n own N N N Y M e = cc
unwritten_is_n own N N N Y Y e = cc
unwritten_is_n own N N M implied limit e = cc
unwritten_is_n own N N Y implied limit e = cc
unwritten_is_n own N M selected implied limit e = cc
unwritten_is_n own N Y selected implied limit e = cc
unwritten_is_n own M default selected implied limit e = cc
unwritten_is_n own Y default selected implied limit e = cc

stays_n : (b : Bool) → cond b N N ≡ N
stays_n true = refl
stays_n false = refl

on_is_not_n : (t : Tri) → not (is_n t) ≡ true → t ≡ N → true ≡ false
on_is_not_n t on e = sym on ∙ ap (λ x. not (is_n x)) e

module _ (tree : TreeFacts) (known : SymId → SymbolValue) (s : SymId) (f : SymbolFacts) (t : Tri) (bytes : List ℕ) (own : Option GivenValue) where
  n_upgraded : (kind : SymbolType) → upgraded tree known kind N ≡ N
  n_upgraded Undefined = refl
  n_upgraded IsBool = refl
  n_upgraded Tristate = stays_n (is_n (modules_value known tree.modules))
  n_upgraded Str = refl
  n_upgraded Int = refl
  n_upgraded Hex = refl

  equation_is_n : written_truth tree known f ≡ false → truth_equation tree known f own ≡ N
  equation_is_n unwritten =
      ap (upgraded tree known f.symbol_type)
      (unwritten_is_n own (visibility tree known f) (default_value tree known (first_met tree known f.defaults)) (selected_to tree known f) (implied_to tree known f) (direct tree known f) unwritten)
      ∙ n_upgraded f.symbol_type

  on_is_written : not (is_n t) ≡ true → known s ≡ Truth t → known s ≡ Truth (truth_equation tree known f own) → written_truth tree known f ≡ true
  on_is_written on here solved =
      elim (cases_Bool (written_truth tree known f)) [
        | inl w ↦ w
        | inr o ↦ let wrong = on_is_not_n t on (ap truth_of_value (sym here ∙ solved) ∙ equation_is_n o) in absurd cc
      ]

  by_kind : (kind : SymbolType) → is_on None kind t ≡ true → known s ≡ value_by_type kind t bytes → known s ≡ by_type tree known s f kind own → written_by_type tree known f kind ≡ true
  by_kind Undefined on here solved = cc
  by_kind IsBool on here solved = on_is_written on here solved
  by_kind Tristate on here solved = on_is_written on here solved
  by_kind Str on here solved = cc
  by_kind Int on here solved = cc
  by_kind Hex on here solved = cc

  written_if_on : (c : Option ℕ) → is_on c f.symbol_type t ≡ true → known s ≡ value_by_type f.symbol_type t bytes → IsSolvedOwn tree known s f c own →
      written_by_choice tree known f c ≡ true
  written_if_on None on here solved = by_kind f.symbol_type on here solved
  written_if_on (Some c) on here solved = cc

-- the same of a row of a table that solves at its symbol
pub on_has_line : (t : Table) (id : SymId) (row : Symbol) → IsRowOf t id row → IsSolvedAt t id → is_on (mode_view row.choice) row.symbol_type (tri_in (value_in t.values id)) ≡ true →
    written_facts t.tree.now (known_at t) (facts t.tree.now id) ≡ true
on_has_line t id row is_row solves on =
    let tree = t.tree.now in
    let f = facts_of t.layout.now id.0 row in
    let at = row_facts t id row is_row in
    let value = value_in t.values id in
    let bytes = text_in value (name tree id) in
    let here : known_at t id ≡ value_by_type f.symbol_type (tri_in value) bytes = ap (λ o. value_by_type (type_in o) (tri_in value) bytes) at in
    let solved = solves f at in
    ap (written_facts tree (known_at t)) at ∙ written_if_on tree (known_at t) id f (tri_in value) bytes solved.0 f.choice on here solved.1

-- a table that solves the equations solves at each symbol
pub solved_at : (t : Table) (U : UserPlace → Option GivenValue) → length t.values ≡ name_count t.tree.now → Solves (name_count t.tree.now) (equations t.tree.now U) (values_in t) →
    (id : SymId) → IsSolvedAt t id
solved_at t U full solves id f at =
    let own = U (SymbolPlace id.0) in
    (own, solved_here t.tree.now t.values full U id.0 f at _ _ refl refl solves (slice_get_within t.tree.now.symbols id.0 f at) own refl)
