-- Why `same_few` keeps its contract.
use Rattle.std.proofs.{Common.{arith, sym}, lemmas.List.ext_get_or}
use Rattle.std.specs.Cmp.Lexicographic.{bytes_decides}
use Rattle.kc_text.proofs.bytes.same_few.Goals as goal

pub returns : goal.returns
returns c =
    let text = c.args.text.now in
    let other = c.args.other.now in
    sym ((bytes_decides text other).1 (ext_get_or 0 text other c.if-text-other.false (λ k lt. c.same.invariant k (omega arith))))
