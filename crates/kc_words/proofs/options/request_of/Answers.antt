use Rattle.std.proofs.Common.{subst, List}
use Rattle.std.proofs.lemmas.Result.{IfOk-weaker, IfErr-weaker}
use Rattle.clap.specs.Words.{Row, found_of, rows_of}
use Rattle.kc_words.specs.CommandLine.{IsRequestOf, rows_for}
use Rattle.kc_words.proofs.RowLemmas.{rows-matches}
use Rattle.kc_words.proofs.RefusalLemmas.{no_fault, has_kind, refused_request, only_memory, refused_words, told-request}
use Rattle.kc_words.proofs.options.request_of.Goals as goal

pub returns-in-Ok-clause-ok : goal.returns-in-Ok-clause-ok
returns-in-Ok-clause-ok c =
    IfOk-weaker _ _ _ (λ request. subst (λ (rows : List Row). IsRequestOf rows request) (rows-matches _ _ c.in-Ok.matches c.in_ok-command.ensures c.in-Ok.ensures.matches)) c.read_request.ensures.ok

pub returns-in-Ok-clause-faultless : goal.returns-in-Ok-clause-faultless
returns-in-Ok-clause-faultless c =
    IfOk-weaker _ _ _ (λ request h. no_fault _ _ c.in_ok-command.ensures c.in-Ok.ensures.kinds) c.read_request.ensures.ok

pub returns-in-Ok-clause-refused : goal.returns-in-Ok-clause-refused
returns-in-Ok-clause-refused c =
    IfErr-weaker _ _ _ (refused_request _ _ _ (no_fault _ _ c.in_ok-command.ensures c.in-Ok.ensures.kinds)
    (rows-matches _ _ c.in-Ok.matches c.in_ok-command.ensures c.in-Ok.ensures.matches)) c.read_request.ensures.err

pub returns-in-Ok-clause-taken : goal.returns-in-Ok-clause-taken
returns-in-Ok-clause-taken c = λ taken good.
    IfErr-weaker _ _ _ (only_memory _ _ (rows-matches _ _ c.in-Ok.matches c.in_ok-command.ensures c.in-Ok.ensures.matches) good) c.read_request.ensures.err

pub returns-in-Err-clause-refused : goal.returns-in-Err-clause-refused
returns-in-Err-clause-refused c =
    refused_words _ (rows_for c.args.words.now) _ c.usage_of.result (has_kind _ _ c.in-Err.error c.in_ok-command.ensures c.in-Err.ensures.kinds) c.usage_of.ensures.kind

pub returns-in-Ok-clause-told : goal.returns-in-Ok-clause-told
returns-in-Ok-clause-told c = IfErr-weaker _ _ _ (told-request (rows_of (found_of c.in-Ok.matches))) c.read_request.ensures.err
