use Rattle.std.proofs.Common.{Bool, List, ap, cond, subst, ℕ, ◌++◌, ◌∙◌, ◌≡◌}
use Rattle.std.specs.{Option.is_some, Prelude.{IfOk, OnOk, true}}
use Rattle.kc_config_file.specs.PartsOfTexts.{end_if}
use Rattle.kc_config_file.proofs.MenuEntryLemmas.{end-ends, end-line, end-text, same-entries, title-at, within}
use Rattle.kc_language.specs.Texts.{solution_view}
use Rattle.kc_config_file.proofs.config.add_entry.Goals as goal

pub returns-in-EndMenu-clause-text : goal.returns-in-EndMenu-clause-text
returns-in-EndMenu-clause-text c =
    let l = c.args.source.now.table.now.layout.now in
    let told = solution_view c.args.source.now.solved.now in
    let same = same-entries c.args.source.now.solved.now c.args.source.now.table.now c.requires.table in
    let line = end-line l c.args.i c.args.entry.now c.requires.there c.in-EndMenu.is in
    subst (λ (t : List ℕ). OnOk c.add_end.result (c.add_end.new.file.items ≡ c.args.file.now.items ++ t))
    (ap end_if (c.shown_title.ensures ∙ title-at l told c.args.i c.of-at.result.0 c.outer.result.0 c.of-at.ensures c.outer.ensures)
    ∙ end-text l c.args.source.now.solved.now.tree c.args.source.now.prefix.now told same c.args.after_end c.args.i (within l c.args.i c.args.entry.now c.requires.there) line)
    c.add_end.ensures.text

pub returns-in-EndMenu-clause-next : goal.returns-in-EndMenu-clause-next
returns-in-EndMenu-clause-next c =
    let l = c.args.source.now.table.now.layout.now in
    let told = solution_view c.args.source.now.solved.now in
    let same = same-entries c.args.source.now.solved.now c.args.source.now.table.now c.requires.table in
    let line = end-line l c.args.i c.args.entry.now c.requires.there c.in-EndMenu.is in
    subst (λ (b : Bool). IfOk c.add_end.result (λ next. next ≡ b))
    (ap (λ o. cond (is_some o) true c.args.after_end) (c.shown_title.ensures ∙ title-at l told c.args.i c.of-at.result.0 c.outer.result.0 c.of-at.ensures c.outer.ensures)
    ∙ end-ends l c.args.source.now.solved.now.tree c.args.source.now.prefix.now told same c.args.after_end c.args.i (within l c.args.i c.args.entry.now c.requires.there) line)
    c.add_end.ensures.next
