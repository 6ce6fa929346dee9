use Rattle.std.proofs.Common.{◌≡◌, ◌==◌, map, length, string_bytes}
use Rattle.kc_words.specs.CommandLine.{filled_parts}
use Rattle.kc_words.proofs.patterns.filled.Given as goal

-- the parts so far are filled
abbrev pub invariant-loop-part : goal.invariant-loop-part
invariant-loop-part l = (l.is_first ≡ (length l.yielded == 0)) × (string_bytes l.made ≡ filled_parts l.config (map (λ x. x.now) l.yielded))
