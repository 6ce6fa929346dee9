use Rattle.std.proofs.Common.{◌≡◌, false, map, take, string_bytes}
use Rattle.kc_words.specs.CommandLine.{is_among}
use Rattle.kc_words.proofs.apart.is_one_of.Given as goal

-- it is none of those so far
abbrev pub invariant-loop-other : goal.invariant-loop-other
invariant-loop-other l = is_among l.name (map string_bytes (take l.other-index l.names)) ≡ false
