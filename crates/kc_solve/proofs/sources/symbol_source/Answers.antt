use Rattle.std.proofs.{Common.{None, ap, arith, length, subst, sym, ℕ, ◌<◌, ◌∙◌, ◌≡◌}, lemmas.List.FromFn.{get_or-map-range_with_len, length-map-range_with_len}}
use Rattle.std.specs.Prelude.{slice_index_or}
use Rattle.kc_language.specs.{ConfigFile.place_at, Expressions.SymbolValue, Values.{ChoicePlace, choice_at, selected, selection}, declared.expressions.SymId.SymId}
use Rattle.kc_tree.specs.{Layouts.facts_of, Places.mode_view}
use Rattle.kc_user.specs.PartsOfConfigFile.{member_place}
use Rattle.kc_values.specs.{Sources.{member_source, own_source}, TableFacts.{facts_in, known_at}}
use Rattle.kc_solve.specs.{Flags.values_in, Sources.source_by_choice}
use Rattle.kc_solve.proofs.{TableSteps.{choice_at_most, row_facts}, UserSteps.place_mapped, WarningSteps.tables_known}
use Rattle.kc_solve.proofs.sources.symbol_source.Goals as goal

pub selected-given-requires : goal.selected-given-requires
selected-given-requires c =
    let t = c.args.table.now in
    let below : c.in-Some.choice.0 < length t.tree.now.choices =
    choice_at_most t.tree.now c.name_count-count.ensures.formed c.args.id.0 (facts_of t.layout.now c.args.id.0 c.args.symbol.now) c.in-Some.choice.0
    (row_facts t c.args.id c.args.symbol.now c.requires.row) (ap mode_view (sym c.in-Some.ensures)) in
    subst (λ (n : ℕ). c.in-Some.choice.0 < n) (sym c.requires.user.choices) below

pub at_choice-requires : goal.at_choice-requires
at_choice-requires c =
    let t = c.args.table.now in
    let below : c.in-Some.choice.0 < length t.tree.now.choices =
    choice_at_most t.tree.now c.name_count-count.ensures.formed c.args.id.0 (facts_of t.layout.now c.args.id.0 c.args.symbol.now) c.in-Some.choice.0
    (row_facts t c.args.id c.args.symbol.now c.requires.row) (ap mode_view (sym c.in-Some.ensures)) in
    let long : length c.args.selections.now ≡ length t.tree.now.choices =
    ap length c.requires.selections ∙ length-map-range_with_len (selection t.tree.now (place_at c.args.user.now) (values_in t)) 0 (length t.tree.now.choices) in
    subst (λ (n : ℕ). c.in-Some.choice.0 < n) (sym long) below

pub member_source-requires : goal.member_source-requires
member_source-requires c =
    let t = c.args.table.now in
    let k = c.in-Some.choice.0 in
    let user = c.args.user.now in
    let below : k < length t.tree.now.choices =
    choice_at_most t.tree.now c.name_count-count.ensures.formed c.args.id.0 (facts_of t.layout.now c.args.id.0 c.args.symbol.now) k
    (row_facts t c.args.id c.args.symbol.now c.requires.row) (ap mode_view (sym c.in-Some.ensures)) in
    c.at_choice.ensures
    ∙ ap (λ xs. slice_index_or xs k None) c.requires.selections
    ∙ get_or-map-range_with_len (selection t.tree.now (place_at user) (values_in t)) 0 (length t.tree.now.choices) k k None below (omega arith)
    ∙ ap (λ (known : SymId → SymbolValue). selected t.tree.now known (choice_at t.tree.now k) (place_at user (ChoicePlace k))) (sym (tables_known t.tree.now t.values c.requires.full))
    ∙ ap (λ o. selected t.tree.now (known_at t) (choice_at t.tree.now k) (member_place o)) (sym c.selected-given.ensures)

pub returns-in-Some : goal.returns-in-Some
returns-in-Some c =
    let t = c.args.table.now in
    c.member_source.ensures
    ∙ ap (λ o. member_source t c.in-Some.choice.0 (member_place o)) c.selected-given.ensures
    ∙ ap (source_by_choice t.tree.now (known_at t) (place_at c.args.user.now) c.args.id (facts_in t c.args.id c.args.symbol.now)) (ap mode_view c.in-Some.ensures)

pub returns-in-None : goal.returns-in-None
returns-in-None c =
    let t = c.args.table.now in
    c.own_source.ensures
    ∙ ap (own_source t c.args.id c.args.symbol.now) (place_mapped c.get-in-None.result ∙ c.get-in-None.ensures)
    ∙ ap (source_by_choice t.tree.now (known_at t) (place_at c.args.user.now) c.args.id (facts_in t c.args.id c.args.symbol.now)) (ap mode_view c.in-None.ensures)
