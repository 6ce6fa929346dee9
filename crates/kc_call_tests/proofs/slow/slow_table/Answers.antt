use Rattle.std.proofs.Common.{length, ◌∙◌, sym, ap, subst, arith}
use Rattle.kc_language.specs.Expressions.{symbol}
use Rattle.kc_language.specs.Symbols.{TreeFacts}
use Rattle.kc_language.specs.ConfigFile.{place_at}
use Rattle.kc_language.specs.Values.{name_count}
use Rattle.kc_solve.specs.Computing.{AreComputedValues}
use Rattle.kc_solve.specs.Kept.{valuation}
use Rattle.kc_solve.proofs.UserSteps.{count_shown, solves_as_shown}
use Rattle.kc_call_tests.proofs.SlowSteps.{computed, ended, iteration_ended, still_unread}
use Rattle.kc_call_tests.proofs.slow.slow_table.Goals as goal

pub compute_anew-requires-clause-given : goal.compute_anew-requires-clause-given
compute_anew-requires-clause-given c =
    count_shown c.symbols-given.result.now c.args.user.now.symbols c.symbols-given.ensures ∙ c.requires.user.symbols ∙ sym c.loop-i.invariant.count

pub compute_anew-requires-clause-chosen : goal.compute_anew-requires-clause-chosen
compute_anew-requires-clause-chosen c =
    ap length c.choices-chosen.ensures ∙ c.requires.user.choices ∙ ap (λ (t : TreeFacts). length t.choices) (sym c.loop-i.invariant.tree)

pub compute_anew-requires-clause-full : goal.compute_anew-requires-clause-full
compute_anew-requires-clause-full c = c.loop-i.invariant.count ∙ ap name_count (sym c.loop-i.invariant.tree)

pub compute_anew-requires-clause-unread : goal.compute_anew-requires-clause-unread
compute_anew-requires-clause-unread c = c.loop-i.invariant.unread c.loop-i.i

pub loop-iteration-init : goal.loop-iteration-init
loop-iteration-init c =
    let e = c.in_ok-table.ensures in
    record { tree = e.tree; count = e.count; hold = λ s l free. cc; unread = e.unread }

pub loop-i-init : goal.loop-i-init
loop-i-init c =
    let now = c.loop-iteration.invariant in
    record { tree = now.tree; count = now.count; hold = record { before = now.hold; now = λ s up. absurd (omega arith) }; unread = now.unread }

pub loop-i-preserved : goal.loop-i-preserved
loop-i-preserved c =
    let now = c.loop-i.invariant in
    let f = c.in_ok-compute_anew.ensures in
    let given = c.symbols-given.result.now in
    let chosen = c.choices-chosen.result.now in
    let values = c.loop-i.table.values in
    let new = c.compute_anew.new.table in
    let filled = subst (λ (u : TreeFacts). AreComputedValues u given chosen (symbol c.loop-i.i) values new.values) now.tree f.values in
    record {
      tree = ap (λ t. t.now) f.keeps.tree ∙ now.tree;
      count = f.values.count ∙ now.count;
      hold = computed c.args.laid.now.tree.now given chosen c.loop-iteration._iteration c.loop-i.i values new.values filled now.hold;
      unread = λ s. still_unread c.loop-i.table new f.keeps f.contexts f.visibles f.dependencies f.selections s (now.unread s);
    }

pub loop-iteration-preserved : goal.loop-iteration-preserved
loop-iteration-preserved c =
    let now = c.loop-i.invariant in
    record {
      tree = now.tree;
      count = now.count;
      hold = iteration_ended c.args.laid.now.tree.now c.symbols-given.result.now c.choices-chosen.result.now c.loop-iteration._iteration c.loop-i.i c.loop-i.table.values (omega arith) now.hold;
      unread = now.unread;
    }

pub returns-clause-solves : goal.returns-clause-solves
returns-clause-solves c =
    let t = c.args.laid.now.tree.now in
    let given = c.symbols-given.result.now in
    let chosen = c.choices-chosen.result.now in
    let values = c.loop-iteration.table.values in
    solves_as_shown t given chosen c.args.user.now (valuation t values) c.symbols-given.ensures c.choices-chosen.ensures
    (ended t given chosen c.loop-iteration._iteration values (omega arith) c.requires.accepted c.loop-iteration.invariant.hold)

pub returns-clause-only : goal.returns-clause-only
returns-clause-only c =
    let t = c.args.laid.now.tree.now in
    let given = c.symbols-given.result.now in
    let chosen = c.choices-chosen.result.now in
    let values = c.loop-iteration.table.values in
    let V = valuation t values in
    let solves =
    solves_as_shown t given chosen c.args.user.now V c.symbols-given.ensures c.choices-chosen.ensures
    (ended t given chosen c.loop-iteration._iteration values (omega arith) c.requires.accepted c.loop-iteration.invariant.hold)
    in
    c.accepted_have_one_solution.ensures.agree t (place_at c.args.user.now) c.requires.accepted V solves
