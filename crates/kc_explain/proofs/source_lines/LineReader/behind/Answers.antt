use Rattle.std.proofs.Common.{ap, drop, subst, sym, ◌∙◌}
use Rattle.std.specs.Option.{option_copied}
use Rattle.std.specs.Prelude.{slice_get}
use Rattle.kc_read.specs.Files.{files_in}
use Rattle.kc_explain.specs.SourceLines.{StandAtLines, lines_left, lines_of}
use Rattle.kc_explain.proofs.SourceLineLemmas.{rest-behind, rests-found, rests-kept}
use Rattle.kc_explain.proofs.source_lines.LineReader.behind.Goals as goal

pub returns-in-Some-clause-rest : goal.returns-in-Some-clause-rest
returns-in-Some-clause-rest c =
    let files = files_in c.self.inside.files.now in
    let rests = c.in-Some.rests.now in
    let stands = rests-found files c.args.file rests c.self.inside.rests.entries c.self.invariant (sym c.get.ensures.value ∙ ap option_copied c.in-Some.is) in
    ap (λ r. lines_left (option_copied r)) (c.rest_behind.ensures ∙ ap (λ rs. slice_get rs c.args.count) c.deref.ensures.value)
    ∙ rest-behind (lines_of files c.args.file.now) rests.items c.args.count stands
    ∙ ap (λ t. drop c.args.count (lines_of (files_in t) c.args.file.now)) c.self.view_is

pub invariant_of-self-2 : goal.invariant_of-self-2
invariant_of-self-2 c =
    let files = files_in c.self.inside.files.now in
    let rests = c.in_ok-rests.rests in
    let stands = subst (λ lines. StandAtLines lines rests.items) (ap lines_left c.get-2.ensures) c.in_ok-rests.ensures in
    rests-kept files c.args.file rests c.self.inside.rests.entries c.insert.new.self.entries c.self.invariant stands c.in_ok-insert.ensures.entries

pub returns-clause-rest : goal.returns-clause-rest
returns-clause-rest c =
    let files = files_in c.self.inside.files.now in
    let rests = c.in_ok-rests.rests in
    let stands = subst (λ lines. StandAtLines lines rests.items) (ap lines_left c.get-2.ensures) c.in_ok-rests.ensures in
    ap (λ r. lines_left (option_copied r)) (c.rest_behind-rest.ensures ∙ ap (λ rs. slice_get rs c.args.count) c.deref-2.ensures.value)
    ∙ rest-behind (lines_of files c.args.file.now) rests.items c.args.count stands
    ∙ ap (λ t. drop c.args.count (lines_of (files_in t) c.args.file.now)) c.self.view_is
