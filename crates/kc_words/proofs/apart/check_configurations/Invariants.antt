use Rattle.std.proofs.Common.{◌≡◌, false, map, take, string_bytes}
use Rattle.std.specs.List.{list_any}
use Rattle.kc_words.specs.Clashes.{is_overwritten}
use Rattle.kc_words.proofs.apart.check_configurations.Given as goal

-- none of the configurations so far is written by another one
abbrev pub invariant-loop-config : goal.invariant-loop-config
invariant-loop-config l = list_any (is_overwritten l.each l.written) (map string_bytes (take l.config-index l.configurations)) ≡ false
