use Rattle.std.proofs.{Common.{None, ap, arith, length, subst, sym, ℕ, ◌<◌, ◌∙◌, ◌≡◌}, lemmas.List.FromFn.{get_or-map-range_with_len, length-map-range_with_len}}
use Rattle.std.specs.Prelude.{slice_index_or}
use Rattle.kc_language.specs.{ConfigFile.place_at, Expressions.SymbolValue, Values.{ChoicePlace, choice_at, default_selection, selected, selection}, declared.expressions.SymId.SymId}
use Rattle.kc_tree.specs.{Layouts.facts_of, Places.mode_view}
use Rattle.kc_solve.specs.Flags.{values_in}
use Rattle.kc_solve.proofs.{TableSteps.{choice_at_most, row_facts}, WarningSteps.tables_known}
use Rattle.kc_solve.proofs.flags.symbol_is_new.Goals as goal

pub selected-requires : goal.selected-requires
selected-requires c =
    let t = c.args.row.now.table.now in
    let below : c.in-Some.choice.0 < length t.tree.now.choices =
    choice_at_most t.tree.now c.name_count-count.ensures.formed c.args.row.now.id.0 (facts_of t.layout.now c.args.row.now.id.0 c.args.row.now.symbol.now) c.in-Some.choice.0
    (row_facts t c.args.row.now.id c.args.row.now.symbol.now c.requires.row) (ap mode_view (sym c.in-Some.ensures)) in
    let long : length c.args.selections.now.selected.items ≡ length t.tree.now.choices =
    ap length c.requires.selections.selected ∙ length-map-range_with_len (selection t.tree.now (place_at c.args.user.now) (values_in t)) 0 (length t.tree.now.choices) in
    subst (λ (n : ℕ). c.in-Some.choice.0 < n) (sym long) below

pub default-requires : goal.default-requires
default-requires c =
    let t = c.args.row.now.table.now in
    let below : c.in-Some.choice.0 < length t.tree.now.choices =
    choice_at_most t.tree.now c.name_count-count.ensures.formed c.args.row.now.id.0 (facts_of t.layout.now c.args.row.now.id.0 c.args.row.now.symbol.now) c.in-Some.choice.0
    (row_facts t c.args.row.now.id c.args.row.now.symbol.now c.requires.row) (ap mode_view (sym c.in-Some.ensures)) in
    let long : length c.args.selections.now.default.items ≡ length t.tree.now.choices =
    ap length c.requires.selections.default ∙ length-map-range_with_len (default_selection t.tree.now (values_in t)) 0 (length t.tree.now.choices) in
    subst (λ (n : ℕ). c.in-Some.choice.0 < n) (sym long) below

pub member_is_new-requires-clause-selected : goal.member_is_new-requires-clause-selected
member_is_new-requires-clause-selected c =
    let t = c.args.row.now.table.now in
    let k = c.in-Some.choice.0 in
    let below : k < length t.tree.now.choices =
    choice_at_most t.tree.now c.name_count-count.ensures.formed c.args.row.now.id.0 (facts_of t.layout.now c.args.row.now.id.0 c.args.row.now.symbol.now) k
    (row_facts t c.args.row.now.id c.args.row.now.symbol.now c.requires.row) (ap mode_view (sym c.in-Some.ensures)) in
    let given = place_at c.args.user.now in
    c.selected.ensures
    ∙ ap (λ xs. slice_index_or xs k None) c.requires.selections.selected
    ∙ get_or-map-range_with_len (selection t.tree.now given (values_in t)) 0 (length t.tree.now.choices) k k None below (omega arith)
    ∙ ap (λ (known : SymId → SymbolValue). selected t.tree.now known (choice_at t.tree.now k) (given (ChoicePlace k))) (sym (tables_known t.tree.now t.values c.requires.full))

pub member_is_new-requires-clause-user : goal.member_is_new-requires-clause-user
member_is_new-requires-clause-user c =
    let t = c.args.row.now.table.now in
    let below : c.in-Some.choice.0 < length t.tree.now.choices =
    choice_at_most t.tree.now c.name_count-count.ensures.formed c.args.row.now.id.0 (facts_of t.layout.now c.args.row.now.id.0 c.args.row.now.symbol.now) c.in-Some.choice.0
    (row_facts t c.args.row.now.id c.args.row.now.symbol.now c.requires.row) (ap mode_view (sym c.in-Some.ensures)) in
    subst (λ (n : ℕ). c.in-Some.choice.0 < n) (sym c.requires.user.choices) below

pub member_is_new-requires-clause-default : goal.member_is_new-requires-clause-default
member_is_new-requires-clause-default c =
    let t = c.args.row.now.table.now in
    let k = c.in-Some.choice.0 in
    let below : k < length t.tree.now.choices =
    choice_at_most t.tree.now c.name_count-count.ensures.formed c.args.row.now.id.0 (facts_of t.layout.now c.args.row.now.id.0 c.args.row.now.symbol.now) k
    (row_facts t c.args.row.now.id c.args.row.now.symbol.now c.requires.row) (ap mode_view (sym c.in-Some.ensures)) in
    c.default.ensures
    ∙ ap (λ xs. slice_index_or xs k None) c.requires.selections.default
    ∙ get_or-map-range_with_len (default_selection t.tree.now (values_in t)) 0 (length t.tree.now.choices) k k None below (omega arith)
    ∙ ap (λ (known : SymId → SymbolValue). selected t.tree.now known (choice_at t.tree.now k) None) (sym (tables_known t.tree.now t.values c.requires.full))
