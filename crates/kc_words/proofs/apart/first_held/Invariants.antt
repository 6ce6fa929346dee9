use Rattle.std.proofs.Common.{◌≡◌, false, map, take, string_bytes}
use Rattle.std.specs.List.{list_any}
use Rattle.kc_words.specs.CommandLine.{is_among}
use Rattle.kc_words.proofs.apart.first_held.Given as goal

-- none of the names so far is in the table
abbrev pub invariant-loop-name : goal.invariant-loop-name
invariant-loop-name l = list_any (λ name. is_among name l.table) (map string_bytes (take l.name-index l.names)) ≡ false
