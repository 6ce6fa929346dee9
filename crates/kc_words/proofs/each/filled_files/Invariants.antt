use Rattle.std.proofs.Common.{◌≡◌, map, string_bytes, take}
use Rattle.kc_words.specs.Inputs.{filled_file}
use Rattle.kc_words.proofs.each.filled_files.Given as goal

-- the names so far are those of the outputs so far
abbrev pub invariant-loop-wanted : goal.invariant-loop-wanted
invariant-loop-wanted l = map string_bytes l.names.items ≡ map (filled_file l.config) (take l.wanted-index l.outputs)
