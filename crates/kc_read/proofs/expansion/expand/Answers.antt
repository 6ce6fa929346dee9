use Rattle.std.proofs.Common.{Err, Ok, ◌≢◌}
use Rattle.kc_language.specs.{Expansion.{Expands, first_log}, declared.diagnostics.Cause.TheVariants.Memory}
use Rattle.kc_entries.specs.PartsOfExpansion.{root_context}
use Rattle.kc_read.specs.{Files.files_in, LineReads.cause_of, RefusalView.refusal_view}
use Rattle.kc_read.proofs.{RestLemmas.refusal_passed, StateLemmas.{expands_read, expands_refused, state_begun}}
use Rattle.kc_read.proofs.expansion.expand.Goals as goal

pub returns-in-Err-clause-refused : goal.returns-in-Err-clause-refused
returns-in-Err-clause-refused c = λ ne.
    expands_refused (files_in c.args.map.now) c.args.root.now (cause_of c.in-Err.fault) (refusal_view c.refuse.result) c.in-Err.ensures.fault (c.refuse.ensures.refused ne)

pub returns-in_err-read_file-clause-refused : goal.returns-in_err-read_file-clause-refused
returns-in_err-read_file-clause-refused c =
    let files = files_in c.args.map.now in
    let root = c.args.root.now in
    let bytes = c.in-Ok.opened.0.now in
    let state = state_begun files c.args.names.now root bytes c.in-Ok.opened.1 c.in-Ok-begin.begun.0 c.in-Ok-begin.begun.1 (rw c.is_flat.ensures at c.in-Ok-begin.ensures.begun) c.in-Ok.ensures.total_lines.0 in
    refusal_passed c.from_residual.result (λ r. r.cause ≢ Memory → Expands files root (Err (refusal_view r))) c.in_err-read_file.field-0.0 c.from_residual.ensures.1 (λ ne.
    expands_read files root bytes (Err (refusal_view c.in_err-read_file.field-0.0)) c.in-Ok.ensures.allowed c.in-Ok.ensures.bytes
    (c.in_err-read_file.ensures.read c.args.names.now (root_context root) (first_log files root bytes) state ne))

pub returns-clause-expanded : goal.returns-clause-expanded
returns-clause-expanded c =
    let files = files_in c.args.map.now in
    let root = c.args.root.now in
    let bytes = c.in-Ok.opened.0.now in
    let state = state_begun files c.args.names.now root bytes c.in-Ok.opened.1 c.in-Ok-begin.begun.0 c.in-Ok-begin.begun.1 (rw c.is_flat.ensures at c.in-Ok-begin.ensures.begun) c.in-Ok.ensures.total_lines.0 in
    let read = c.in_ok-read_file.ensures.read c.args.names.now (root_context root) (first_log files root bytes) state in (
      read.log_now,
      expands_read files root bytes (Ok read.log_now) c.in-Ok.ensures.allowed c.in-Ok.ensures.bytes read.rest,
      record {
        lines = read.progress.lines;
        mentions = read.progress.mentions;
        defined_is = read.progress.defined_is;
        modules_is = read.progress.modules_is;
        opened_is = read.progress.opened;
      },
    )
