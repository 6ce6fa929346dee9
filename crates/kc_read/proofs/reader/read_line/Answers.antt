use Rattle.std.proofs.Common.{sym}
use Rattle.kc_read.specs.{LineReads.lexemes_from, Progress.context_in}
use Rattle.kc_read.proofs.{FrontLemmas.after_one, PartLemmas.{line_place, line_rest}}
use Rattle.kc_read.proofs.reader.read_line.Goals as goal

pub returns-in-Some-placement_fault-clause-read : goal.returns-in-Some-placement_fault-clause-read
returns-in-Some-placement_fault-clause-read c =
    let ts = c.args.tokens.now in
    line_place (context_in c.args.position.now.frame.now c.args.position.now.progress.now) (lexemes_from ts 0) (lexemes_from ts 1)
    c.in_ok-word.word.now c.in-Some.keyword c.in-Some-placement_fault.fault c.in_ok-word.ensures.part (sym c.in-Some.ensures) (after_one ts 0)
    (sym c.in-Some-placement_fault.ensures)

pub returns-clause-read : goal.returns-clause-read
returns-clause-read c =
    let ts = c.args.tokens.now in
    line_rest c.args.names.now c.rest_of_line.new.names (context_in c.args.position.now.frame.now c.args.position.now.progress.now)
    (lexemes_from ts 0) (lexemes_from ts 1) c.in_ok-word.word.now c.in-Some.keyword c.rest_of_line.result c.in_ok-word.ensures.part (sym c.in-Some.ensures)
    (after_one ts 0) (sym c.in_default-placement_fault.ensures) c.rest_of_line.ensures.read
