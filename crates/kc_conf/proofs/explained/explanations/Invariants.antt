-- The explanations of the names so far were added.
use Rattle.std.proofs.Common.{◌≡◌, map, string_bytes, take}
use Rattle.std.specs.List.{flat_map}
use Rattle.kc_outcome.specs.Explanations.{asked_symbol, explanation_text}
use Rattle.kc_language.specs.Symbols.{listed}
use Rattle.kc_conf.proofs.explained.explanations.Given as goal

abbrev pub invariant-loop-asked : goal.invariant-loop-asked
invariant-loop-asked l =
    l.text.items
    ≡ flat_map (λ asked. flat_map (explanation_text l.teller.input.now l.teller.solved.now l.teller.is_raw l.options.explain_depth) (listed (asked_symbol l.teller.solved.now.tree l.options.prefix.prefix asked)))
    (map string_bytes (take l.asked-index l.options.explain.items))
