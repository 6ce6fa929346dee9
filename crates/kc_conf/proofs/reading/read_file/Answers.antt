-- A file that is there, or none.
use Rattle.std.proofs.lemmas.Result.{MatchResult-weaker}
use Rattle.kc_conf.proofs.FileLemmas.{breaks-closed, breaks-there, reads-none, reads-there}
use Rattle.kc_conf.proofs.reading.read_file.Goals as goal

pub returns-in-Ok-true-clause-ok : goal.returns-in-Ok-true-clause-ok
returns-in-Ok-true-clause-ok g c =
    MatchResult-weaker c.read_opened.result c.read_opened.ensures.ok (λ long. reads-there (rw c.in-Ok-true.field-0-test at c.in-Ok-true.ensures.ok)) (λ stop any. any)

pub returns-in-Ok-true-clause-err : goal.returns-in-Ok-true-clause-err
returns-in-Ok-true-clause-err g c =
    MatchResult-weaker c.read_opened.result c.read_opened.ensures.err (λ long any. any) (λ stop. breaks-there (rw c.in-Ok-true.field-0-test at c.in-Ok-true.ensures.ok))

pub returns-in-Ok-false-clause-ok : goal.returns-in-Ok-false-clause-ok
returns-in-Ok-false-clause-ok g c = reads-none (rw c.in-Ok-false.field-0-test at c.in-Ok-false.ensures.ok)

pub returns-in-Err-clause-err : goal.returns-in-Err-clause-err
returns-in-Err-clause-err g c = breaks-closed c.in-Err.ensures.err
