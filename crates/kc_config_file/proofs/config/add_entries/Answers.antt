use Rattle.std.proofs.Common.{ap, arith, false, length, sym, ◌++◌, ◌∙◌}
use Rattle.kc_config_file.specs.EntryTexts.{entries_after}
use Rattle.kc_config_file.proofs.{EntryLemmas.entries_text-after, MenuEntryLemmas.{entries-end, entries-next, same-entries, shown-from}, TextLemmas.{grows, is_grown}}
use Rattle.kc_language.specs.Texts.{solution_view}
use Rattle.kc_config_file.proofs.config.add_entries.Goals as goal

pub loop-i-init : goal.loop-i-init
loop-i-init c =
    let tree = c.args.source.now.solved.now.tree in
    let told = solution_view c.args.source.now.solved.now in
    let prefix = c.args.source.now.prefix.now in
    ap (λ t. c.args.file.now.items ++ t)
    (sym (entries_text-after tree prefix told tree.entries
    ∙ ap (entries_after tree prefix told false) (same-entries c.args.source.now.solved.now c.args.source.now.table.now c.requires ∙ shown-from c.args.source.now.table.now.layout.now)))

pub loop-i-preserved : goal.loop-i-preserved
loop-i-preserved c =
    let tree = c.args.source.now.solved.now.tree in
    let told = solution_view c.args.source.now.solved.now in
    let prefix = c.args.source.now.prefix.now in
    let added = c.in_ok-after_end.ensures in
    let next = entries-next c.args.source.now.table.now.layout.now tree prefix told c.loop-i.i c.loop-i.after_end c.in_ok-after_end.after_end
    (omega (arith, c.loop-i-test.true, ap length c.deref-entry-items.ensures.value)) added.next in
    grows _ _ _ _ _ _ c.loop-i.invariant next added.text

pub returns : goal.returns
returns c =
    let tree = c.args.source.now.solved.now.tree in
    let told = solution_view c.args.source.now.solved.now in
    let prefix = c.args.source.now.prefix.now in
    is_grown _ _ _ c.loop-i.invariant (entries-end c.args.source.now.table.now.layout.now tree prefix told c.loop-i.i c.loop-i.after_end
    (omega (arith, c.loop-i-test.false, ap length c.deref-entry-items.ensures.value)))
