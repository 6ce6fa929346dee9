use Rattle.std.proofs.{Common.{arith, drop, length, length-drop, take, ◌-◌, ◌≡◌, ◌≤◌}, lemmas.List.take_all}
use Rattle.kc_memory_device.proofs.ReadLemmas.{reads_on}
use Rattle.kc_memory_device.proofs.opened.Opened.read.Goals as goal

pub returns-clause-given : goal.returns-clause-given
returns-clause-given c =
    let bytes = c.args.self.now.bytes.items in
    let at = c.args.self.now.at in
    let rest : take (length bytes - at) (drop at bytes) ≡ drop at bytes = take_all _ _ (omega (arith, length-drop at bytes)) in
    let copied = rw (c.deref.ensures.value, rest) at c.copy_from_slice.ensures.after in
    let some = rw (c.deref.ensures.value, rest) at c.min.ensures in
    let one : 1 ≤ c.max.result = omega (arith, c.max.ensures) in
    rw copied (reads_on c.args.self.now.is_told bytes c.args.buffer.now at c.min-count.result c.min.result c.max.result c.args.self.now.within some c.min-count.ensures one)
