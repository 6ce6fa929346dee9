-- Why `long_lines` keeps its contract.
use Rattle.std.proofs.{Common.{subst, sym}, lemmas.List.Elements.All-push}
use Rattle.kc_text.specs.LongLines.{AreLong, IsLongIn}
use Rattle.kc_text.proofs.LongLineLemmas.{end_of_end, long_from_end}
use Rattle.kc_text.proofs.long_lines.long_lines.Goals as goal

pub along-preserved : goal.along-preserved
along-preserved c =
    let file = c.args.file.now in
    let line = c.long_line-line.result in
    let known = long_from_end file c.along.rest.now line c.along.invariant.1 c.long_line-line.ensures.before c.long_line-line.ensures.long in (
      subst (AreLong file) (sym c.in-Ok.ensures.items) (All-push (IsLongIn file) c.along.lines.items line c.along.invariant.0 known),
      end_of_end file c.along.rest.now c.line_until.result.after.now c.along.invariant.1 c.line_until.ensures.end,
    )
