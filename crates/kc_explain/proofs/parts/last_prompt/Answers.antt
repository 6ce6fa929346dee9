-- All lines.
use Rattle.std.proofs.Common.{ap, ◌∙◌}
use Rattle.std.specs.Prelude.{option_map}
use Rattle.kc_language.specs.Expansion.{last_of}
use Rattle.kc_language.specs.Symbols.{prompt_of}
use Rattle.kc_entries.specs.Entries.{attribute_line}
use Rattle.kc_entries.specs.declared.entries.AttributeLine.{AttributeLine}
use Rattle.kc_explain.specs.PartViews.{prompt_said, said_one}
use Rattle.kc_explain.proofs.PartLemmas.{last_end, own-last}
use Rattle.kc_explain.proofs.parts.last_prompt.Goals as goal

pub returns : goal.returns
returns c =
    last_end (λ (a : AttributeLine). said_one prompt_of (attribute_line c.args.own.first.now.file.value.items a.line a.attribute)) c.args.own.attributes.now c.loop-line.line-index
    (option_map prompt_said c.loop-line.last) c.loop-line.invariant c.loop-line-test.false
    ∙ ap last_of (own-last (said_one prompt_of) c.args.own.first.now c.args.own.attributes.now)
