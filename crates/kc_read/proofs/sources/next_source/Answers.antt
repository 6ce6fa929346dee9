use Rattle.std.proofs.Common.{MatchOption, ap, subst, sym, ◌∙◌, ◌≡◌}
use Rattle.kc_text.specs.Lines.{IsLineFault}
use Rattle.kc_language.specs.Lines.{TakesLine, UnreadLines}
use Rattle.kc_read.specs.SourceSteps.{IsFound}
use Rattle.kc_read.proofs.{SourceLemmas.{ended_found, line_ends, says_clear, says_less}, SourceLines.at_end}
use Rattle.kc_read.proofs.sources.next_source.Goals as goal

pub returns-in-Some-clause-clear : goal.returns-in-Some-clause-clear
returns-in-Some-clause-clear c =
    says_clear c.args.lines.now c.next_single.new.self c.source_of_line.new.lines c.in-Some.line.now c.source_of_line.result c.in-Some.ensures.some.2 c.source_of_line.ensures

pub returns-in-Some-clause-less : goal.returns-in-Some-clause-less
returns-in-Some-clause-less c =
    says_less c.args.lines.now c.next_single.new.self c.source_of_line.new.lines c.in-Some.line.now c.source_of_line.result c.in-Some.ensures.some.2 c.source_of_line.ensures

pub returns-in-Ok-None-clause-found : goal.returns-in-Ok-None-clause-found
returns-in-Ok-None-clause-found c = at_end c.args.lines.now (ap (λ (l : UnreadLines). l.lines) (sym c.in_default.ensures.none.0) ∙ (rw c.in-Ok-None.field-0-is at c.in-Ok-None.ensures.end).1)

pub returns-in-Err-clause-found : goal.returns-in-Err-clause-found
returns-in-Err-clause-found c =
    let why = c.in-Err.fault in
    let cause = subst (λ (l : UnreadLines). MatchOption l.refusal (IsLineFault l why) (λ given. given ≡ why)) c.in_default.ensures.none.0 c.in-Err.ensures.cause in
    ended_found (IsFound c.args.lines.now c.next_into.new.self) c.ended.result why c.ended.ensures (λ ne. line_ends c.args.lines.now why c.requires cause ne)

pub returns-clause-clear : goal.returns-clause-clear
returns-clause-clear c =
    let taken = rw c.in-Ok-Some.field-0-is at c.in-Ok-Some.ensures.line in
    let old = c.next_single.new.self in
    let mid = c.next_into.new.self in
    says_clear old mid c.source_of_line-2.new.lines c.deref-2.result.now c.source_of_line-2.result (rw c.deref-2.ensures.value taken.2) c.source_of_line-2.ensures

pub returns-clause-less : goal.returns-clause-less
returns-clause-less c =
    let taken = rw c.in-Ok-Some.field-0-is at c.in-Ok-Some.ensures.line in
    let old = c.args.lines.now in
    let mid = c.next_into.new.self in
    let line = subst (λ (l : UnreadLines). TakesLine l mid c.next_into.new.line.items) c.in_default.ensures.none.0 taken.2 in
    says_less old mid c.source_of_line-2.new.lines c.deref-2.result.now c.source_of_line-2.result (rw c.deref-2.ensures.value line) c.source_of_line-2.ensures
