-- What a table holds: the facts of a row, and one place written.
use Rattle.std.proofs.{Common.{List, None, Option, Some, [], ap, arith, cond, get_or, get_or-set_other, get_or-set_same, inl, inr, length, refl, subst, sym, ℕ, ◌<◌, ◌∙◌, ◌∷◌, ◌≡◌, ◌≤◌}, Math.{Bridge.le_prop, Logic.∥∥₁_elim}, lemmas.{Bool.{cases_Bool, ltb-false}, List.{Elements.All-get_or, get_or_past, length-set}, Option.{slice_get_past, slice_get_within}}}
use Rattle.std.specs.{Borrow.Bor, List.{All, AllByRecursion}, Option.option_copied, Prelude.{IfSome, option_map, slice_get, slice_index_or, slice_set}}
use base.Stored.{Coded-set}
use Rattle.kc_language.specs.{Expressions.{SymbolValue, TextValue, Truth, symbol}, Needs.named_by, Symbols.{SymbolFacts, TreeFacts}, Values.{GivenValue, SymbolPlace, by_type, equation, equations, facts, known_from, name, name_count, type_in, user_place}, declared.{expressions.{SymId.SymId, SymbolType.{SymbolType, TheVariants.{Bool as IsBool, Hex, Int, Str, Tristate, Undefined}}, Tri.Tri}, symbols.ChoiceId.ChoiceId}}
use Rattle.kc_expr.specs.Value.{value_by_type}
use Rattle.kc_language.specs.contracts.expressions.SymbolType as type_row
use Rattle.kc_expr.proofs.AgreeLemmas.{depends_on_symbols}
use Rattle.kc_order.specs.Solution.{IsUpdate}
use Rattle.kc_tree.specs.{Layouts.facts_of, Places.mode_view, declared.rows.Symbol.Symbol}
use Rattle.kc_entries.specs.WellFormed.{IsMentioned, IsWellFormed}
use Rattle.kc_values.specs.{PartsOfValues.{by_choice, is_mentioned, user_place_by, user_place_of}, Selections.given_for, Table.{known_in, known_value, text_in, tri_in, value_in}, TableFacts.{IsRowOf, known_at}, User.given_in, declared.table.{Table.Table, Value.Value}}
use Rattle.kc_user.specs.declared.value.UserValue.{UserValue}
use Rattle.kc_values.specs.declared.table.Value.TheVariants as value
use Rattle.kc_values.proofs.{ModeLaws.members_are_bools, OnlyNamed.same_equation}
use Rattle.kc_solve.specs.{Computing.{AreComputedValues, equation_at, place_value}, Kept.valuation, PlaceLists.{given_at, places}}

pub each : {X : Type 0} (P : X → Type 0) → ((x : X) → P x) → (xs : List X) → AllByRecursion P xs
each P h [] = tt
each P h (x ∷ xs) = (h x, each P h xs)

-- the facts of a symbol, by its row
pub row_facts : (t : Table) (id : SymId) (s : Symbol) → IsRowOf t id s → facts t.tree.now id ≡ Some (facts_of t.layout.now id.0 s)
row_facts t id s e = t.laid.symbols id.0 ∙ ap (option_map (facts_of t.layout.now id.0)) e

-- as many rows as symbols
pub row_count : (t : Table) → length t.layout.now.symbols.items ≡ name_count t.tree.now
row_count t = sym t.laid.symbol_count

-- the defined symbols are those of the layout
pub defined_are : (t : Table) → t.layout.now.defined.items ≡ t.tree.now.defined
defined_are t = sym t.laid.defined

-- each of them has a row
pub defined_below : (t : Table) (ids : List SymId) (i : ℕ) → ids ≡ t.layout.now.defined.items → i < length ids → (get_or ids i (symbol 0)).0 < length t.layout.now.symbols.items
defined_below t ids i e l =
    let there : length t.tree.now.symbols ≡ length t.layout.now.symbols.items = sym (row_count t) in
    ∥∥₁_elim {P = (get_or ids i (symbol 0)).0 < length t.layout.now.symbols.items} t.formed le_prop (λ formed.
    subst (λ n. (get_or ids i (symbol 0)).0 < n) there
    (All-get_or (IsMentioned t.tree.now) ids i (symbol 0) l (subst (All (IsMentioned t.tree.now)) (sym (e ∙ defined_are t)) formed.defined_there)))

-- a member is a bool
pub type_of_member : (t : Table) (s : SymId) (f : SymbolFacts) (c : ℕ) → facts t.tree.now s ≡ Some f → f.choice ≡ Some c → f.symbol_type ≡ IsBool
type_of_member t s f c e h = ∥∥₁_elim t.formed (Coded-set type_row.the_row.coded _ _) (λ formed. members_are_bools t.tree.now formed s f c e h)

-- what is found of a symbol in a table is what is known of it
pub known_seen : (tree : TreeFacts) (values : List (Option Value)) → length values ≡ name_count tree → (s : SymId) → known_in tree values s ≡ known_from tree (valuation tree values) s
known_seen tree values l s =
    elim (cases_Bool (is_mentioned tree s)) [
      | inl t ↦ sym (ap (λ b. cond b (known_in tree values s) (TextValue Undefined (name tree s))) t)
      | inr f ↦
          let past : name_count tree ≤ s.0 = ltb-false s.0 (name_count tree) f in
          let no_facts = slice_get_past tree.symbols s.0 past in
          let no_value = get_or_past values s.0 None (omega arith) in
          ap (λ o. value_by_type (type_in o) (tri_in (value_in values s)) (text_in (value_in values s) (name tree s))) no_facts
          ∙ ap (λ o. TextValue Undefined (text_in o (name tree s))) no_value
          ∙ sym (ap (λ b. cond b (known_in tree values s) (TextValue Undefined (name tree s))) f)
    ]

-- a value that an equation gives has the shape of its kind
shaped_by_type : (tree : TreeFacts) (known : SymId → SymbolValue) (s : SymId) (f : SymbolFacts) (user : Option GivenValue) (n : List ℕ) (symbol_type : SymbolType) (x : Value) →
    known_value symbol_type x ≡ by_type tree known s f symbol_type user → value_by_type symbol_type (tri_in (Some x)) (text_in (Some x) n) ≡ known_value symbol_type x
shaped_by_type tree known s f user n Undefined (value.Truth t) e = cc
shaped_by_type tree known s f user n Undefined (value.Text v) e = refl
shaped_by_type tree known s f user n IsBool (value.Truth t) e = refl
shaped_by_type tree known s f user n IsBool (value.Text v) e = cc
shaped_by_type tree known s f user n Tristate (value.Truth t) e = refl
shaped_by_type tree known s f user n Tristate (value.Text v) e = cc
shaped_by_type tree known s f user n Str (value.Truth t) e = cc
shaped_by_type tree known s f user n Str (value.Text v) e = refl
shaped_by_type tree known s f user n Int (value.Truth t) e = cc
shaped_by_type tree known s f user n Int (value.Text v) e = refl
shaped_by_type tree known s f user n Hex (value.Truth t) e = cc
shaped_by_type tree known s f user n Hex (value.Text v) e = refl

shaped_bool : (n : List ℕ) (symbol_type : SymbolType) (x : Value) (t : Tri) → symbol_type ≡ IsBool → known_value symbol_type x ≡ Truth t → value_by_type symbol_type (tri_in (Some x)) (text_in (Some x) n) ≡ known_value symbol_type x
shaped_bool n IsBool (value.Truth u) t b e = refl
shaped_bool n IsBool (value.Text v) t b e = cc
shaped_bool n Undefined x t b e = cc
shaped_bool n Tristate x t b e = cc
shaped_bool n Str x t b e = cc
shaped_bool n Int x t b e = cc
shaped_bool n Hex x t b e = cc

pub shaped : (tree : TreeFacts) (known : SymId → SymbolValue) (s : SymId) (f : SymbolFacts) (c : Option ℕ) (user : Option GivenValue) (n : List ℕ) (x : Value) →
    ((d : ℕ) → c ≡ Some d → f.symbol_type ≡ IsBool) → known_value f.symbol_type x ≡ by_choice tree known s f c user → value_by_type f.symbol_type (tri_in (Some x)) (text_in (Some x) n) ≡ known_value f.symbol_type x
shaped tree known s f None user n x bools e = shaped_by_type tree known s f user n f.symbol_type x e
shaped tree known s f (Some c) user n x bools e = shaped_bool n f.symbol_type x _ (bools c refl) e

-- a symbol without a type is worth its name, which its empty place says
pub untyped : (tree : TreeFacts) (known : SymId → SymbolValue) (s : SymId) (f : SymbolFacts) (c : Option ℕ) (user : Option GivenValue) →
    f.symbol_type ≡ Undefined → ((d : ℕ) → c ≡ Some d → f.symbol_type ≡ IsBool) → place_value f.symbol_type (name tree s) None ≡ by_choice tree known s f c user
untyped tree known s f None user e bools = ap (λ k. place_value k (name tree s) None) e ∙ sym (ap (λ k. by_type tree known s f k user) e)
untyped tree known s f (Some c) user e bools = let b = bools c refl in absurd cc

-- one place written
pub written_at : (tree : TreeFacts) (values : List (Option Value)) (i : ℕ) (f : SymbolFacts) (x : Option Value) → i < length values → facts tree (symbol i) ≡ Some f →
    IsUpdate (valuation tree values) (valuation tree (slice_set values i x)) i (place_value f.symbol_type (name tree (symbol i)) x)
written_at tree values i f x l e = record {
  here =
      ap (λ o. place_value (type_in o) (name tree (symbol i)) (value_in (slice_set values i x) (symbol i))) e
      ∙ ap (place_value f.symbol_type (name tree (symbol i))) (get_or-set_same values i x None l);
  others = λ t ne. ap (place_value (type_in (facts tree (symbol t))) (name tree (symbol t))) (get_or-set_other values i t x None ne);
}

pub place_of : (given : List (Option UserValue)) (chosen : List (Option SymId)) (i : ℕ) (choice : Option ChoiceId) →
    given_for choice (places given chosen (SymbolPlace i)) chosen ≡ places given chosen (user_place_by i (mode_view choice))
place_of given chosen i None = refl
place_of given chosen i (Some k) = refl

equation_seen : (tree : TreeFacts) (values : List (Option Value)) → length values ≡ name_count tree → (s : SymId) (f : Option SymbolFacts) (user : Option GivenValue) →
    equation tree (known_in tree values) s f user ≡ equation tree (known_from tree (valuation tree values)) s f user
equation_seen tree values l s f user =
    same_equation depends_on_symbols tree (known_in tree values) (known_from tree (valuation tree values)) s f user
    (each (λ (t : SymId). known_in tree values t ≡ known_from tree (valuation tree values) t) (known_seen tree values l) (named_by tree f))

-- what was given for a symbol, as it is looked up
pub place_given : (given : List (Option UserValue)) (i : ℕ) (own : Option (Bor UserValue)) → option_copied own ≡ slice_index_or given i None →
    given_in own ≡ given_at (slice_index_or given i None)
place_given given i None e = ap given_at e
place_given given i (Some u) e = ap given_at e

-- a symbol computed: its place says what its equation gives
pub computed_place : (t : Table) (id : SymId) (s : Symbol) (given : List (Option UserValue)) (chosen : List (Option SymId)) (x : Option Value) → IsRowOf t id s →
    length t.values ≡ name_count t.tree.now → id.0 < length t.values →
    place_value s.symbol_type (name t.tree.now id) x ≡ equation_at t id s (given_at (slice_index_or given id.0 None)) chosen →
    AreComputedValues t.tree.now given chosen id t.values (slice_set t.values id.0 x)
computed_place t id s given chosen x row count below e =
    let tree = t.tree.now in
    let values = t.values in
    let f = facts_of t.layout.now id.0 s in
    let at = row_facts t id s row in
    let P = places given chosen in
    let u = written_at tree values id.0 f x below at in
    let at_place : user_place tree id.0 ≡ user_place_by id.0 (mode_view s.choice) = ap (user_place_of id.0) at in
    let value : place_value f.symbol_type (name tree id) x ≡ equations tree P id.0 (valuation tree values) =
    e
    ∙ ap (by_choice tree (known_at t) id f (mode_view s.choice)) (place_of given chosen id.0 s.choice ∙ ap P (sym at_place))
    ∙ ap (λ o. equation tree (known_in tree values) id o (P (user_place tree id.0))) (sym at)
    ∙ equation_seen tree values count id (facts tree id) (P (user_place tree id.0))
    in
    record {
      here = u.here ∙ value;
      others = λ n ne. u.others n.0 ne;
      count = length-set values id.0 x;
    }

-- a value that the equation gives, in its place
pub value_placed : (t : Table) (id : SymId) (s : Symbol) (own : Option GivenValue) (chosen : List (Option SymId)) (x : Value) → IsRowOf t id s →
    known_value s.symbol_type x ≡ equation_at t id s own chosen → place_value s.symbol_type (name t.tree.now id) (Some x) ≡ equation_at t id s own chosen
value_placed t id s own chosen x row e =
    let f = facts_of t.layout.now id.0 s in
    shaped t.tree.now (known_at t) id f (mode_view s.choice) _ (name t.tree.now id) x (λ d h. type_of_member t id f d (row_facts t id s row) h) e ∙ e

-- the same of a value
pub computed_value : (t : Table) (id : SymId) (s : Symbol) (given : List (Option UserValue)) (chosen : List (Option SymId)) (x : Value) → IsRowOf t id s →
    length t.values ≡ name_count t.tree.now → id.0 < length t.values →
    known_value s.symbol_type x ≡ equation_at t id s (given_at (slice_index_or given id.0 None)) chosen →
    AreComputedValues t.tree.now given chosen id t.values (slice_set t.values id.0 (Some x))
computed_value t id s given chosen x row count below e =
    computed_place t id s given chosen (Some x) row count below (value_placed t id s (given_at (slice_index_or given id.0 None)) chosen x row e)

-- the choice of a symbol is one of the tree's
pub choice_at_most : (tree : TreeFacts) → IsWellFormed tree → (i : ℕ) (f : SymbolFacts) (c : ℕ) → slice_get tree.symbols i ≡ Some f → f.choice ≡ Some c → c < length tree.choices
choice_at_most tree formed i f c e h = let listed = formed.members_listed i f e c h in slice_get_within tree.choices c listed.0 listed.1

pub choice_below : (tree : TreeFacts) → IsWellFormed tree → (i n : ℕ) (f : SymbolFacts) (choice : Option ChoiceId) → slice_get tree.symbols i ≡ Some f → f.choice ≡ mode_view choice →
    n ≡ length tree.choices → IfSome choice (λ k. k.0 < n)
choice_below tree formed i n f None e h count = tt
choice_below tree formed i n f (Some k) e h count = subst (λ m. k.0 < m) (sym count) (choice_at_most tree formed i f k.0 e h)
