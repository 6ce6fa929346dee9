use Rattle.std.proofs.Common.{arith, length-drop, refl}
use Rattle.kc_read.proofs.{QuietFiles.source_found, SourceSearch.{rest_whole, source_nowhere, source_passed}}
use Rattle.kc_read.proofs.sources.has_source.Goals as goal

pub returns-in_default-clause-silent : goal.returns-in_default-clause-silent
returns-in_default-clause-silent c = λ _.
    let whole = rest_whole c.args.file.now c.words.at in
    let found = rw c.in_default.is at c.find.ensures in
    source_nowhere c.args.file.now c.words.at c.words.invariant.none (rw whole at found)

pub returns-then-begins_line-clause-heard : goal.returns-then-begins_line-clause-heard
returns-then-begins_line-clause-heard c = λ _. source_found c.args.file.now c.words.at c.in-Some.found c.words.invariant.within
    (rw (rest_whole c.args.file.now c.words.at) at c.in-Some.ensures.1) (c.if-begins_line.ensures.begun refl)

pub words-preserved : goal.words-preserved
words-preserved c = record {
  within =
      let here = rw (rest_whole c.args.file.now c.words.at) at c.in-Some.ensures.1 in
      let fits = here.fits in
      omega (arith, length-drop c.words.at c.args.file.now);
  none = source_passed c.args.file.now c.words.at c.in-Some.found c.words.invariant.none (rw (rest_whole c.args.file.now c.words.at) at c.in-Some.ensures.0.before) (c.if-begins_line.ensures.not_begun refl);
}
