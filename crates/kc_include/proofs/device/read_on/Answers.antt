use Rattle.std.proofs.{Common.{ap, arith, length, ◌∙◌, ◌≡◌, ◌≤◌}, lemmas.List.length-take-le}
use Rattle.std.specs.Prelude.{replicate}
use Rattle.kc_include.proofs.RestLemmas.{empty-lines}
use Rattle.kc_include.proofs.device.read_on.Goals as goal

pub returns-then-rest-gt0-clause-given : goal.returns-then-rest-gt0-clause-given
returns-then-rest-gt0-clause-given c =
    let rest = c.args.rest.now in
    let count = c.min-count.result in
    let few : count ≤ rest.empty_lines = grind (arith, c.min-count.ensures) in
    let room : count ≤ length c.args.buffer.now = grind (arith, c.min-count.ensures) in
    let filled : c.fill.new.self ≡ replicate count 10 =
    c.fill.ensures.after (λ y is. is) ∙ ap (λ k. replicate k 10) (length-take-le count c.args.buffer.now room) in
    rw filled (empty-lines rest.empty_lines count rest.bytes.now _ few)
