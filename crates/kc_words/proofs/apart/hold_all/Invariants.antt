use Rattle.std.proofs.Common.{◌≡◌, map, take, string_bytes}
use Rattle.kc_language.specs.Expressions.{all_mentioned}
use Rattle.kc_words.proofs.apart.hold_all.Given as goal

-- the names so far are added
abbrev pub invariant-loop-name : goal.invariant-loop-name
invariant-loop-name l = l.table ≡ all_mentioned l.fn.table (map string_bytes (take l.name-index l.names))
