-- The last prompt of an entry that is there.
use Rattle.std.proofs.Common.{ap, ◌∙◌}
use Rattle.kc_language.specs.Expansion.{last_of}
use Rattle.kc_language.specs.Symbols.{prompt_of}
use Rattle.kc_explain.specs.PartViews.{said_of}
use Rattle.kc_explain.proofs.PartLemmas.{own-known, own-none}
use Rattle.kc_explain.proofs.parts.prompt_at.Goals as goal

pub returns-in-Some : goal.returns-in-Some
returns-in-Some c =
    c.last_prompt.ensures
    ∙ ap (λ r. last_of (said_of prompt_of r)) (own-known c.args.layout.now c.args.entry.0 c.in-Some.own.first.now c.in-Some.own.attributes.now c.in-Some.ensures.first c.in-Some.ensures.own)

pub returns-in-None : goal.returns-in-None
returns-in-None c = ap (λ r. last_of (said_of prompt_of r)) (own-none c.args.layout.now c.args.entry.0 c.in-None.ensures.first)
