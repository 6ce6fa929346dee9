use Rattle.std.proofs.{Common.{Some, ap, arith, length, subst, sym, ◌<◌, ◌∙◌, ◌≡◌}, lemmas.List.{length-map}}
use Rattle.std.specs.Prelude.{option_map, slice_set, take}
use Rattle.kc_language.specs.ConfigFile.{Places}
use Rattle.kc_user.specs.ValueView.{given_of_value}
use Rattle.kc_how.specs.Merged.{laid_over}
use Rattle.kc_how.proofs.MergedLemmas.{length-over, over-more, over-nothing, over-same}
use Rattle.kc_how.proofs.merged.put_symbols.Goals as goal
use Rattle.kc_how.proofs.merged.put_symbols.Goals.{in-Some+in_ok-copy+in_ok-set, in_default}

pub loop-number-init : goal.loop-number-init
loop-number-init c = ap (λ xs. record c.args.user.now { symbols = xs }) (sym (over-nothing c.args.user.now.symbols))

pub set-requires : goal.set-requires
set-requires c =
    let count : length c.loop-number.user.symbols ≡ length c.args.user.now.symbols =
    ap (λ (u : Places). length u.symbols) c.loop-number.invariant ∙ length-over c.args.user.now.symbols (take c.loop-number.number c.args.over.now.symbols) in
    let number : c.loop-number.number < length c.args.over.now.symbols =
    subst (λ n. c.loop-number.number < n) (c.len-number-end.ensures ∙ sym (length-map c.symbols.result.now (option_map given_of_value)) ∙ ap length c.symbols.ensures) c.loop-number-test.true in
    omega (arith, count, number, c.requires)

pub loop-number-preserved : goal.loop-number-preserved
loop-number-preserved c =
    let old = c.args.user.now.symbols in
    let new = c.args.over.now.symbols in
    let i = c.loop-number.number in
    let number : i < length new =
    subst (λ n. i < n) (c.len-number-end.ensures ∙ sym (length-map c.symbols.result.now (option_map given_of_value)) ∙ ap length c.symbols.ensures) c.loop-number-test.true in
    elim c.match-get.branch [
      | in-Some+in_ok-copy+in_ok-set w ↦
          w.user-is ∙ w.in_ok-set.ensures.done
          ∙ ap (λ (u : Places). record u { symbols = slice_set u.symbols i (Some (given_of_value w.in_ok-copy.copy)) }) c.loop-number.invariant
          ∙ ap (λ xs. record c.args.user.now { symbols = xs })
          (ap (λ g. slice_set (laid_over old (take i new)) i (Some g)) w.in_ok-copy.ensures ∙ sym (over-more old new i (given_of_value w.in-Some.value.now) number c.requires (sym w.in-Some.ensures)))
      | in_default w ↦
          w.user-is ∙ c.loop-number.invariant ∙ ap (λ xs. record c.args.user.now { symbols = xs }) (sym (over-same old new i number (sym w.in_default.ensures)))
    ]
