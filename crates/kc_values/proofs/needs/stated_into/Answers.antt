use Rattle.std.proofs.Common.{arith}
use Rattle.kc_values.specs.NeedRows.{line_names}
use Rattle.kc_values.proofs.RowSteps.{lines_added}
use Rattle.kc_values.proofs.needs.stated_into.Goals as goal

pub returns : goal.returns
returns c =
    lines_added (line_names c.args.layout.now.modules c.args.has_range) c.args.out.now c.loop-line.out c.args.attributes.now c.loop-line.line-index (omega arith) c.loop-line.invariant.0 c.loop-line.invariant.1
