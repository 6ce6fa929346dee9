-- The names of the fragments so far.
use Rattle.std.proofs.Common.{◌≡◌, ◌∷◌, ◌++◌, map, take}
use Rattle.std.specs.Prelude.{string_bytes}
use Rattle.kc_outcome.specs.Outcome.{lead}
use Rattle.kc_conf.proofs.reading.stream_names.Given as goal

abbrev pub invariant-loop-fragment : goal.invariant-loop-fragment
invariant-loop-fragment l =
    map (λ name. name.items) l.names.items ≡ string_bytes l.options.config ∷ map (λ name. lead l.options ++ string_bytes name) (take l.fragment-index l.options.fragments.items)
