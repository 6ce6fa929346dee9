-- One of the warnings is about a value outside its range, or none.
use Rattle.std.proofs.Common.{◌≡◌, ◌∙◌, ap, sym, true, take, get_or, arith}
use Rattle.std.specs.List.{list_any}
use Rattle.std.proofs.lemmas.List.{take_all}
use Rattle.std.proofs.lemmas.List.Folds.{list_any_at}
use Rattle.kc_diagnostics.specs.Warnings.{owned_warning}
use Rattle.kc_entries.proofs.ListLemmas.{list_any-map}
use Rattle.kc_outcome.specs.Outcome.{is_outside}
use Rattle.kc_conf.proofs.compute.is_any_outside.Goals as goal

pub returns-then-is_outside : goal.returns-then-is_outside
returns-then-is_outside c =
    let here : is_outside (owned_warning (get_or c.args.warnings.now c.loop-warning.warning-index c.warning-item.result)) ≡ true =
    rw (← c.warning-item.is) (sym c.is_outside.ensures ∙ c.if-is_outside.true) in
    sym (list_any-map is_outside owned_warning c.args.warnings.now
    ∙ list_any_at (λ w. is_outside (owned_warning w)) c.args.warnings.now c.loop-warning.warning-index c.warning-item.result c.loop-warning-test.true here)

pub returns : goal.returns
returns c =
    let past = c.loop-warning-test.false in
    let all : take c.loop-warning.warning-index c.args.warnings.now ≡ c.args.warnings.now = take_all c.loop-warning.warning-index c.args.warnings.now (omega (arith, past)) in
    sym (list_any-map is_outside owned_warning c.args.warnings.now ∙ ap (list_any (λ w. is_outside (owned_warning w))) (sym all) ∙ c.loop-warning.invariant)
