use Rattle.std.proofs.Common.{List, subst}
use Rattle.kc_language.specs.{Symbols.Guarded, Values.selector_values, declared.expressions.SymId.SymId}
use Rattle.kc_language.specs.declared.symbols.SelectOrImply.TheVariants as word
use Rattle.kc_possible.specs.Bounds.{IsWithin}
use Rattle.kc_possible.proofs.SelectorWalks.{select-at, selects-all}
use Rattle.kc_possible.proofs.truths.selected_bounds.Goals as goal

pub selectors_bounds-requires : goal.selectors_bounds-requires
selectors_bounds-requires c = (word.Select, c.args.id, select-at c.args.p.now.laid.layout.now c.args.id c.args.row.now c.requires)

pub returns : goal.returns
returns c =
    let p = c.args.p.now in
    let l = p.laid.layout.now in
    let row = c.args.row.now in
    c.upgraded.ensures _ (λ known h.
    subst (λ (gs : List (Guarded SymId)). IsWithin c.selectors_bounds.result (selector_values p.laid.tree.now known gs)) (selects-all l c.args.id row c.requires)
    (c.selectors_bounds.ensures word.Select c.args.id (select-at l c.args.id row c.requires) known h))
