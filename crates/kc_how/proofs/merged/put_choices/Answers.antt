use Rattle.std.proofs.Common.{Some, ap, arith, length, sym, ◌<◌, ◌∙◌, ◌≡◌}
use Rattle.std.specs.Prelude.{slice_set, take}
use Rattle.kc_language.specs.ConfigFile.{Places}
use Rattle.kc_how.specs.Merged.{laid_over}
use Rattle.kc_how.proofs.MergedLemmas.{length-over, over-more, over-nothing, over-same}
use Rattle.kc_how.proofs.merged.put_choices.Goals as goal
use Rattle.kc_how.proofs.merged.put_choices.Goals.{in-Some, in_default}

pub loop-number-init : goal.loop-number-init
loop-number-init c = ap (λ xs. record c.args.user.now { choices = xs }) (sym (over-nothing c.args.user.now.choices))

pub select-requires : goal.select-requires
select-requires c =
    let count : length c.loop-number.user.choices ≡ length c.args.user.now.choices =
    ap (λ (u : Places). length u.choices) c.loop-number.invariant ∙ length-over c.args.user.now.choices (take c.loop-number.number c.args.over.now.choices) in
    let all : c.choices-number-end.result.now ≡ c.args.layout.now.choices.items = c.choices-number-end.ensures in
    omega (arith, count, ap length all, c.loop-number-test.true, c.requires.user)

pub loop-number-preserved : goal.loop-number-preserved
loop-number-preserved c =
    let old = c.args.user.now.choices in
    let new = c.args.over.now.choices in
    let i = c.loop-number.number in
    let number : i < length new = omega (arith, ap length c.choices-number-end.ensures, c.loop-number-test.true, c.requires.over) in
    let same : length old ≡ length new = c.requires.user ∙ sym c.requires.over in
    elim c.match-selected.branch [
      | in-Some w ↦
          w.user-is ∙ w.select.ensures
          ∙ ap (λ (u : Places). record u { choices = slice_set u.choices i (Some w.in-Some.member) }) c.loop-number.invariant
          ∙ ap (λ xs. record c.args.user.now { choices = xs }) (sym (over-more old new i w.in-Some.member number same (sym w.in-Some.ensures)))
      | in_default w ↦
          w.user-is ∙ c.loop-number.invariant ∙ ap (λ xs. record c.args.user.now { choices = xs }) (sym (over-same old new i number (sym w.in_default.ensures)))
    ]
