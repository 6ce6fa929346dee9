use Rattle.std.proofs.Common.{arith, length-drop, refl, ◌+◌}
use Rattle.kc_read.proofs.{QuietFiles.backslash_found, SourceSearch.{join_nowhere, join_passed, rest_whole}}
use Rattle.kc_read.proofs.sources.has_join.Goals as goal

pub returns-in_default-clause-silent : goal.returns-in_default-clause-silent
returns-in_default-clause-silent c = λ _.
    let whole = rest_whole c.args.file.now c.backslashes.at in
    let found = rw c.in_default.is at c.find_byte.ensures in
    join_nowhere c.args.file.now c.backslashes.at c.backslashes.invariant.none (rw whole at found)

pub returns-then-ends_line-clause-heard : goal.returns-then-ends_line-clause-heard
returns-then-ends_line-clause-heard c = λ _.
    let whole = rest_whole c.args.file.now c.backslashes.at in
    let high = c.in-Some.ensures.0.high in
    backslash_found c.args.file.now c.backslashes.at c.in-Some.found c.backslashes.invariant.within (rw whole at high) (rw whole at c.in-Some.ensures.1)
    (rw (rest_whole c.args.file.now (c.backslashes.at + (c.in-Some.found + 1))) at (c.if-ends_line.ensures.ended refl))

pub backslashes-preserved : goal.backslashes-preserved
backslashes-preserved c = record {
  within =
      let whole = rest_whole c.args.file.now c.backslashes.at in
      let high = rw whole at c.in-Some.ensures.0.high in
      omega (arith, high, length-drop c.backslashes.at c.args.file.now);
  none = join_passed c.args.file.now c.backslashes.at c.in-Some.found c.backslashes.invariant.none (rw (rest_whole c.args.file.now c.backslashes.at) at c.in-Some.ensures.0.before)
      (rw (rest_whole c.args.file.now (c.backslashes.at + (c.in-Some.found + 1))) at (c.if-ends_line.ensures.not_ended refl));
}
