-- A value is lost, so not none.
use Rattle.std.proofs.Common.{◌∙◌, ap, length, sym}
use Rattle.std.specs.Prelude.{filter, ◌==◌}
use Rattle.kc_how.specs.FixCosts.{is_lost}
use Rattle.kc_how.proofs.FilterLemmas.{some-pass}
use Rattle.kc_how.proofs.text.loses_nothing.Goals as goal

pub returns-then-is_lost : goal.returns-then-is_lost
returns-then-is_lost c =
    let q = c.args.question.now in
    let lost = is_lost q c.args.fix.now in
    sym (ap (λ ids. length (filter lost ids) == 0) (q.laid.now.laid.defined ∙ sym c.defined-id-items.ensures)
    ∙ some-pass lost c.defined-id-items.result.now c.loop-id.id-index (record { 0 = 0 }) c.loop-id-test.true (sym c.is_lost.ensures ∙ c.if-is_lost.true))
