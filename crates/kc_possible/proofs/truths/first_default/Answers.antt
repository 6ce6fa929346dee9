use Rattle.std.proofs.Common.{List, None, Some, ap, find, sym, true, ◌∙◌}
use Rattle.std.specs.List.{filter_map}
use Rattle.kc_language.specs.Symbols.{StatedDefault, stated_default}
use Rattle.kc_tree.specs.{EntryViews.statements_of, LineParts.default_said}
use Rattle.kc_values.proofs.SaidFrom.{said-end, said-next}
use Rattle.kc_possible.proofs.truths.first_default.Goals as goal

pub loop-line-preserved : goal.loop-line-preserved
loop-line-preserved c =
    let ls = c.attributes-line-items.result.now in
    sym (ap (λ (ds : List StatedDefault). find (λ d. true) ds) (said-next stated_default ls c.loop-line.line-index c.line-item.result None c.loop-line-test.true c.line-item.is (sym c.in_default.ensures)))
    ∙ c.loop-line.invariant

pub returns-in-Some : goal.returns-in-Some
returns-in-Some c =
    let ls = c.attributes-line-items.result.now in
    sym (ap (λ (ds : List StatedDefault). find (λ d. true) ds) (said-next stated_default ls c.loop-line.line-index c.line-item.result (Some (default_said c.in-Some.default.now)) c.loop-line-test.true c.line-item.is (sym c.in-Some.ensures)))
    ∙ c.loop-line.invariant
    ∙ ap (λ r. find (λ d. true) (filter_map stated_default (statements_of r))) c.attributes-line-items.ensures

pub returns : goal.returns
returns c =
    let ls = c.attributes-line-items.result.now in
    sym (ap (λ (ds : List StatedDefault). find (λ d. true) ds) (said-end stated_default ls c.loop-line.line-index c.loop-line-test.false))
    ∙ c.loop-line.invariant
    ∙ ap (λ r. find (λ d. true) (filter_map stated_default (statements_of r))) c.attributes-line-items.ensures
