use Rattle.std.proofs.Common.{map, take, ◌≡◌}
use Rattle.kc_language.specs.{Expressions.all_mentioned, Files.path_of}
use Rattle.kc_load.proofs.prerequisites.add_paths.Given as goal

-- the files so far are mentioned
abbrev pub invariant-loop-i : goal.invariant-loop-i
invariant-loop-i l = l.names ≡ all_mentioned l.fn.names (map (path_of l.dir) (take l.i l.opened))
