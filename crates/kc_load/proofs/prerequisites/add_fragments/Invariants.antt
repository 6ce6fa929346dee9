use Rattle.std.proofs.Common.{◌≡◌, map, take, string_bytes}
use Rattle.kc_language.specs.Expressions.{all_mentioned}
use Rattle.kc_load.proofs.prerequisites.add_fragments.Given as goal

-- the fragments so far are mentioned
abbrev pub invariant-loop-fragment : goal.invariant-loop-fragment
invariant-loop-fragment l = l.names ≡ all_mentioned l.fn.names (map string_bytes (take l.fragment-index l.fragments))
