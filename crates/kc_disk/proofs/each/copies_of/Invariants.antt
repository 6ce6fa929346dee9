-- The copies so far.
use Rattle.std.proofs.Common.{◌≡◌, map, take, string_bytes}
use Rattle.kc_disk.proofs.each.copies_of.Given as goal

abbrev pub invariant-loop-name : goal.invariant-loop-name
invariant-loop-name l = map string_bytes l.copies.items ≡ map string_bytes (take l.name-index l.names)
