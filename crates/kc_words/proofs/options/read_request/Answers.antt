-- A value is not valid, or the arguments do not go together.
use Rattle.std.proofs.Common.{sym}
use Rattle.clap.specs.Words.{found_of, rows_of}
use Rattle.kc_words.proofs.RefusalLemmas.{excluded-no_request, no_value-no_request}
use Rattle.kc_words.proofs.options.read_request.Goals as goal

pub returns-in-Some-clause-err : goal.returns-in-Some-clause-err
returns-in-Some-clause-err c = excluded-no_request (rows_of (found_of c.args.matches.now)) _ _ (sym c.in-Some.ensures) c.bad.ensures

pub returns-in-Err-clause-err : goal.returns-in-Err-clause-err
returns-in-Err-clause-err c = no_value-no_request (rows_of (found_of c.args.matches.now)) _ (sym c.in-None.ensures) c.in-Err.ensures.err
