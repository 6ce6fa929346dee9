use Rattle.std.proofs.Common.{◌++◌, ◌∙◌, sym, ap}
use Rattle.kc_input.specs.PartsOfConfigFile.{line}
use Rattle.kc_input.proofs.LineLemmas.{input_after-line, warning-line}
use Rattle.kc_input.proofs.line_buffer.read_numbered.Goals as goal

pub returns-clause-places : goal.returns-clause-places
returns-clause-places c =
    let stream = c.args.stream.now in
    let l = line stream.name.now c.args.number.now c.args.bytes.now c.args.ended in
    c.in_ok-read_line.ensures.places
    ∙ sym (input_after-line stream.tree.now stream.prefix.now c.args.user.now l c.text_of-text.result.now c.text_of-text.ensures)

pub returns-clause-warned : goal.returns-clause-warned
returns-clause-warned c =
    let stream = c.args.stream.now in
    let l = line stream.name.now c.args.number.now c.args.bytes.now c.args.ended in
    c.in_ok-read_line.ensures.warned
    ∙ ap (λ text. c.args.told.now.items ++ text)
    (sym (warning-line stream.tree.now stream.prefix.now c.args.user.now l c.text_of-text.result.now c.text_of-text.ensures))
