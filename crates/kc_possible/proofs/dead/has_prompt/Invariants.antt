use Rattle.std.proofs.Common.{◌≡◌}
use Rattle.kc_language.specs.Texts.{has_prompt}
use Rattle.kc_possible.specs.PartsOfPossible.{facts_in}
use Rattle.kc_possible.proofs.DefinitionWalks.{IsWalk, definitions_left, left}
use Rattle.kc_possible.proofs.PromptWalks.{prompts_among}
use Rattle.kc_possible.proofs.dead.has_prompt.Given as goal

abbrev pub invariant-definitions : goal.invariant-definitions
invariant-definitions l =
    let laid = l.p.laid.layout.now in
    record {
      same : has_prompt (prompts_among (definitions_left laid l.fn.id l.at.0)) ≡ has_prompt (facts_in l.p l.fn.id l.row).prompts;
      walk : IsWalk laid l.fn.id l.at.0;
    }

abbrev pub decreases-definitions : goal.decreases-definitions
decreases-definitions l = left l.p.laid.layout.now l.fn.id l.at.0
