use Rattle.std.proofs.Common.{ap, sym, ◌∙◌}
use Rattle.kc_language.specs.declared.symbols.SelectOrImply.TheVariants as word
use Rattle.kc_values.specs.{AtTable.upgraded, TableFacts.known_at}
use Rattle.kc_values.proofs.{ChainLemmas.{select-at, selects-all, values-none}, UpgradeLemmas.n_stays}
use Rattle.kc_values.proofs.truths.selected_to.Goals as goal

pub selector_values-requires : goal.selector_values-requires
selector_values-requires c = (word.Select, c.args.id, select-at c.args.table.now c.args.id c.args.symbol.now c.requires)

pub returns-then-not-is_some : goal.returns-then-not-is_some
returns-then-not-is_some c =
    let t = c.args.table.now in
    let row = c.args.symbol.now in
    n_stays t.tree.now (known_at t) row.symbol_type
    ∙ ap (upgraded t row.symbol_type)
    (sym (values-none t word.Select c.args.id row.last_select.0 (sym c.is_some.ensures ∙ c.if-not-is_some.true)) ∙ selects-all t c.args.id row c.requires)

pub returns : goal.returns
returns c =
    let t = c.args.table.now in
    let row = c.args.symbol.now in
    c.upgraded.ensures
    ∙ ap (upgraded t row.symbol_type) (c.selector_values.ensures word.Select c.args.id (select-at t c.args.id row c.requires) ∙ selects-all t c.args.id row c.requires)
