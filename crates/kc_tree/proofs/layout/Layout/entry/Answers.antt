use Rattle.std.proofs.Common.{ap, ◌∙◌, ◌≡◌}
use Rattle.std.specs.{List.slice_get, Option.option_and_then}
use Rattle.kc_tree.proofs.IndexLemmas.{entry-first}
use Rattle.kc_tree.proofs.layout.Layout.entry.Goals as goal

pub returns-clause-first : goal.returns-clause-first
returns-clause-first c =
    let es = c.args.self.now.entries in
    entry-first es c.in_ok-index.field-0 c.entry.result c.entry.ensures ∙ ap (option_and_then (slice_get es.first_lines.items)) c.in_ok-index.ensures
