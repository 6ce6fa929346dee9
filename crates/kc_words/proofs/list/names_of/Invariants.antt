use Rattle.std.proofs.Common.{◌≡◌, ◌==◌, map, length, not, string_bytes}
use Rattle.std.specs.List.{filter}
use Rattle.kc_words.proofs.list.names_of.Given as goal

-- the lines so far that are not empty
abbrev pub invariant-loop-line : goal.invariant-loop-line
invariant-loop-line l = map string_bytes l.names.items ≡ filter (λ line. not (length line == 0)) (map (λ x. x.now) l.yielded)
