use Rattle.std.proofs.{Common.{ap, arith, length, refl, sym, ◌∙◌}, lemmas.List.FromFn.length-map-range_with_len}
use Rattle.kc_language.specs.{ConfigFile.place_at, Expressions.symbol, Values.{default_selection, selection}}
use Rattle.kc_tree.specs.Layouts.{facts_of}
use Rattle.kc_values.specs.User.{given_in}
use Rattle.kc_solve.specs.{Kept.valuation}
use Rattle.kc_solve.proofs.{FlagSteps.{one_more_differs, solved_here}, TableSteps.{choice_at_most, choice_below, row_count, row_facts}, UserSteps.place_mapped}
use Rattle.kc_solve.proofs.flags.differing_of.Goals as goal

pub symbol_row-symbol-requires : goal.symbol_row-symbol-requires
symbol_row-symbol-requires c = omega (arith, row_count c.args.table.now)

pub symbol_differs-requires-clause-selections : goal.symbol_differs-requires-clause-selections
symbol_differs-requires-clause-selections c =
    let t = c.args.table.now.tree.now in
    let s = c.symbol_row-symbol.result.now in
    let f = selection t (place_at c.args.user.now) (valuation t c.args.table.now.values) in
    choice_below t c.name_count-count.ensures.formed c.loop-i.i _ (facts_of c.args.table.now.layout.now c.loop-i.i s) s.choice
    (row_facts c.args.table.now (symbol c.loop-i.i) s c.symbol_row-symbol.ensures) refl (ap length c.requires.selections.selected ∙ length-map-range_with_len f 0 (length t.choices))

pub symbol_differs-requires-clause-defaults : goal.symbol_differs-requires-clause-defaults
symbol_differs-requires-clause-defaults c =
    let t = c.args.table.now.tree.now in
    let s = c.symbol_row-symbol.result.now in
    let f = default_selection t (valuation t c.args.table.now.values) in
    choice_below t c.name_count-count.ensures.formed c.loop-i.i _ (facts_of c.args.table.now.layout.now c.loop-i.i s) s.choice
    (row_facts c.args.table.now (symbol c.loop-i.i) s c.symbol_row-symbol.ensures) refl (ap length c.requires.selections.default ∙ length-map-range_with_len f 0 (length t.choices))

pub symbol_differs-requires-clause-solved : goal.symbol_differs-requires-clause-solved
symbol_differs-requires-clause-solved c =
    let t = c.args.table.now in
    let s = c.symbol_row-symbol.result.now in
    solved_here t.tree.now t.values c.requires.full (place_at c.args.user.now) c.loop-i.i
    (facts_of t.layout.now c.loop-i.i s) (row_facts t (symbol c.loop-i.i) s c.symbol_row-symbol.ensures) c.args.selections.now.selected.items c.args.selections.now.default.items c.requires.selections.selected c.requires.selections.default
    c.requires.solves (omega arith) (given_in c.get-own.result) (place_mapped c.get-own.result ∙ c.get-own.ensures)

pub loop-i-preserved : goal.loop-i-preserved
loop-i-preserved c =
    let table = c.args.table.now in
    let t = table.tree.now in
    let values = table.values in
    let s = c.symbol_row-symbol.result.now in
    let f = facts_of table.layout.now c.loop-i.i s in
    let at = row_facts table (symbol c.loop-i.i) s c.symbol_row-symbol.ensures in
    one_more_differs t values c.requires.full (place_at c.args.user.now) c.loop-i.i f at c.args.selections.now.selected.items c.args.selections.now.default.items c.requires.selections.selected c.requires.selections.default
    (λ d e. choice_at_most t c.name_count-count.ensures.formed c.loop-i.i f d at e)
    _ _ _ c.loop-i.invariant c.in_ok-push.ensures.items c.in_ok-differs.ensures
