-- The last prompt so far.
use Rattle.std.specs.Prelude.{option_map}
use Rattle.kc_language.specs.Symbols.{prompt_of}
use Rattle.kc_entries.specs.Entries.{attribute_line}
use Rattle.kc_entries.specs.declared.entries.AttributeLine.{AttributeLine}
use Rattle.kc_explain.specs.PartViews.{prompt_said, said_one}
use Rattle.kc_explain.proofs.PartLemmas.{LastIs}
use Rattle.kc_explain.proofs.parts.last_prompt.Given as goal

abbrev pub invariant-loop-line : goal.invariant-loop-line
invariant-loop-line l =
    LastIs (λ (a : AttributeLine). said_one prompt_of (attribute_line l.fn.own.first.now.file.value.items a.line a.attribute)) l.fn.own.attributes.now l.line-index (option_map prompt_said l.last)
