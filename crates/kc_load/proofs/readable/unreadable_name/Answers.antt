-- Make can read the name, or it is the first one that it cannot.
use Rattle.std.proofs.Common.{◌∙◌, sym}
use Rattle.kc_load.proofs.ReadableLemmas.{read_on, read_to}
use Rattle.kc_load.proofs.readable.unreadable_name.Goals as goal

pub returns-then-not-is_read_by_make-2 : goal.returns-then-not-is_read_by_make-2
returns-then-not-is_read_by_make-2 c =
    sym (c.loop-i.invariant ∙ read_to c.args.files.now c.loop-i.i c.name-name.result.now c.is_read_by_make-in-loop-i.result c.name-name.ensures.there
    c.is_read_by_make-in-loop-i.ensures c.if-not-is_read_by_make-2.true)

pub loop-i-preserved : goal.loop-i-preserved
loop-i-preserved c =
    c.loop-i.invariant ∙ read_on c.args.files.now c.loop-i.i c.name-name.result.now c.is_read_by_make-in-loop-i.result c.name-name.ensures.there
    c.is_read_by_make-in-loop-i.ensures c.if-not-is_read_by_make-2.false
