use Rattle.std.proofs.{Common.{ap, arith, length, sym, ◌≤◌}, lemmas.Option.slice_get_past}
use Rattle.kc_language.specs.Values.{mode_of}
use Rattle.kc_values.specs.TableFacts.{known_at}
use Rattle.kc_solve.proofs.sources.mode_at.Goals as goal

pub returns-else-choice-count : goal.returns-else-choice-count
returns-else-choice-count c =
    let t = c.args.table.now in
    let past : length t.tree.now.choices ≤ c.args.choice = omega (arith, c.if-choice-count.false, c.choice_count-count.ensures) in
    ap (mode_of t.tree.now (known_at t)) (sym (slice_get_past t.tree.now.choices c.args.choice past))
