-- No output so far is of this kind.
use Rattle.std.proofs.Common.{◌≡◌, drop, option_map, string_bytes}
use Rattle.std.specs.Prelude.{find}
use Rattle.kc_outcome.proofs.OutputLemmas.{same_output}
use Rattle.kc_outcome.specs.Outcome.{file_for}
use Rattle.kc_options.proofs.options.file_for.Given as goal

abbrev pub invariant-loop-wanted : goal.invariant-loop-wanted
invariant-loop-wanted l =
    file_for l.options l.kind ≡ option_map (λ wanted. string_bytes wanted.file) (find (λ wanted. same_output l.kind wanted.kind) (drop l.wanted-index l.options.outputs.items))
