-- The parts of a solution that are kept, and the values before.
use Rattle.std.proofs.{Common.{List, None, Option, Some, ap, arith, refl, get_or, get_or-set_same, length, subst, sym, ℕ, ◌<◌, ◌∙◌, ◌≡◌}, lemmas.List.{get_or_default, same_lists}}
use Rattle.std.specs.Prelude.{slice_index_or, slice_set}
use Rattle.kc_language.specs.{ConfigFile.{ArePlacesOf, Places, place_at}, Expressions.symbol, Symbols.TreeFacts, Texts.{Solution, known}, Values.{GivenValue, Solves, UserPlace, equations, facts, name, name_count, type_in}, declared.expressions.{SymId.SymId, SymbolType.SymbolType, Tri.TheVariants.N}}
use Rattle.kc_expr.specs.Value.{value_by_type}
use Rattle.kc_tree.specs.declared.laid_tree.LaidTree.{LaidTree}
use Rattle.kc_entries.specs.WellFormed.{IsWellFormed}
use Rattle.kc_values.specs.{Computed.{AreContextsComputed, AreDependenciesComputed, AreVisiblesComputed}, Table.known_in, TableFacts.{AreSelected, known_at}, ValueLists.IsSameValue, declared.table.{Table.Table, Value.{TheVariants.{Text, Truth}, Value}}}
use Rattle.kc_solve.specs.{Again.{AreSlotsFor, AreSlotsOf, IsKeptOf}, Computing.{place_value, slots_of}, Kept.{solution_in, valuation}, Renewing.{IsCopiedTo, kept_slots}, Tables.IsTableOf, declared.slots.KeptSlots.KeptSlots}
use Rattle.kc_solve.proofs.{ComputeSteps.{AreUndefinedWorth, undefined_worth}, SolvedSteps.table_is}

-- all places copied
pub copied_all : {A : Type 0} (i : ℕ) (of copy : List (Option A)) → i ≡ length of → IsCopiedTo i of copy → copy ≡ of
copied_all {A} i of copy all is = same_lists copy of is.count at
  where
    at : (k : ℕ) (d : Option A) → k < length copy → get_or copy k d ≡ get_or of k d
    at k d l =
        let count = is.count in
        get_or_default copy k d None l ∙ is.before k (omega (arith, l, count, all)) ∙ get_or_default of k None d (omega (arith, l, count))

-- the same value says the same of a symbol
told_same : (symbol_type : SymbolType) (name : List ℕ) (x y : Option Value) → IsSameValue x y → place_value symbol_type name x ≡ place_value symbol_type name y
told_same symbol_type name None None same = refl
told_same symbol_type name None (Some y) same = absurd same
told_same symbol_type name (Some x) None same = absurd same
told_same symbol_type name (Some (Truth a)) (Some (Truth b)) same = ap (λ t. value_by_type symbol_type t name) same
told_same symbol_type name (Some (Truth a)) (Some (Text b)) same = absurd same
told_same symbol_type name (Some (Text a)) (Some (Truth b)) same = absurd same
told_same symbol_type name (Some (Text a)) (Some (Text b)) same = ap (value_by_type symbol_type N) same

-- a place that holds a value says what it says once the value is put there
pub place_held : (tree : TreeFacts) (values : List (Option Value)) (id : SymId) (x : Option Value) → id.0 < length values → IsSameValue (slice_index_or values id.0 None) x →
    known_in tree values id ≡ known_in tree (slice_set values id.0 x) id
place_held tree values id x there same =
    let told = place_value (type_in (facts tree id)) (name tree id) in
    told_same (type_in (facts tree id)) (name tree id) (slice_index_or values id.0 None) x same ∙ ap told (sym (get_or-set_same values id.0 x None there))

-- values that solve the equations for other user values give each symbol that is not defined its name
pub undefined_kept : (tree : TreeFacts) (P Q : UserPlace → Option GivenValue) (base : List (Option Value)) → Solves (name_count tree) (equations tree P) (valuation tree base) → IsWellFormed tree → AreUndefinedWorth tree Q base
undefined_kept tree P Q base solves formed s V lt none = solves s lt ∙ sym (undefined_worth tree formed P (valuation tree base) s lt none) ∙ undefined_worth tree formed Q V s lt none

-- what a table has computed is that of its solution, and stays so when it is kept
pub rest_is : (laid : LaidTree) (s : Solution) (t : Table) (user : Places) (slots : KeptSlots) → kept_slots slots ≡ slots_of t → IsTableOf s t → t.tree.now ≡ laid.tree.now → t.layout.now ≡ laid.layout.now →
    AreSelected t user.choices → s.places ≡ user → AreSlotsOf laid s slots
rest_is laid s t user slots same is tree at selected places =
    subst (λ x. AreSlotsFor laid.tree.now laid.layout.now (known s) x.choices slots) (sym places)
    (subst (λ x. AreSlotsFor x laid.layout.now (known s) user.choices slots) tree
    (subst (λ x. AreSlotsFor t.tree.now x (known s) user.choices slots) at (subst (λ x. AreSlotsFor t.tree.now t.layout.now x user.choices slots) is.known_is here)))
  where
    here : AreSlotsFor t.tree.now t.layout.now (known_at t) user.choices slots
    here = record {
      contexts = subst (AreContextsComputed t.tree.now t.layout.now t.values) (sym (ap (λ x. x.contexts) same)) t.contexts_computed;
      visibles = subst (AreVisiblesComputed t.tree.now t.layout.now t.values) (sym (ap (λ x. x.visibles) same)) t.visibles_computed;
      dependencies = subst (AreDependenciesComputed t.tree.now t.layout.now t.values) (sym (ap (λ x. x.dependencies) same)) t.dependencies_computed;
      selections = λ c x e. selected c x (sym (ap (λ y. slice_index_or y.selections c None) same) ∙ e);
    }

pub kept_whole : (laid : LaidTree) (s : Solution) (t : Table) (u copy : Places) (slots : KeptSlots) → solution_in t.tree.now u t.values ≡ s → copy ≡ u → laid.tree.now ≡ s.tree → ArePlacesOf t.tree.now u →
    length t.values ≡ name_count t.tree.now → Solves (name_count t.tree.now) (equations t.tree.now (place_at u)) (valuation t.tree.now t.values) → AreSlotsOf laid s slots →
    IsKeptOf laid (record { values = t.values; slots = slots; user = copy })
kept_whole laid s t u copy slots view copied tree places full solves rest = record {
  user = subst (ArePlacesOf laid.tree.now) (sym copied) (subst (λ x. ArePlacesOf x u) (sym same) places);
  full = full ∙ ap name_count (sym same);
  solves = subst (λ p. Solves (name_count laid.tree.now) (equations laid.tree.now (place_at p)) (valuation laid.tree.now t.values)) (sym copied)
      (subst (λ x. Solves (name_count x) (equations x (place_at u)) (valuation x t.values)) (sym same) solves);
  slots = subst (λ x. AreSlotsFor laid.tree.now laid.layout.now (known_in laid.tree.now t.values) x slots) (ap (λ x. x.places.choices) (sym view) ∙ ap (λ x. x.choices) (sym copied))
      (subst (λ x. AreSlotsFor laid.tree.now laid.layout.now x s.places.choices slots) (sym (table_is t u s view full).known_is ∙ ap (λ x. known_in x t.values) (sym same)) rest);
}
  where
    same : laid.tree.now ≡ t.tree.now
    same = tree ∙ sym (ap (λ x. x.tree) view)
