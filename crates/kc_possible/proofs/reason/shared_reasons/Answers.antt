-- Those found are n under any input.
use Rattle.std.proofs.Common.{ap, subst, sym, ◌∙◌}
use Rattle.std.specs.declared.{alloc.Global.Global, vec.Vec.Vec}
use Rattle.kc_language.specs.declared.expressions.SymId.{SymId}
use Rattle.kc_possible.specs.PartsOfPossible.{AreOff}
use Rattle.kc_possible.proofs.ReasonLemmas.{always_off, none_off}
use Rattle.kc_possible.proofs.reason.shared_reasons.Goals as goal
use Rattle.kc_possible.proofs.reason.shared_reasons.Goals.{in-Some+else-has_prompt+in_ok-add_lines, in-Some+then-has_prompt+in_ok-add_prompts, in_default}

pub returns : goal.returns
returns c =
    let p = c.args.p.now in
    always_off p c.match-symbol.found.items c.requires (elim c.match-symbol.branch [
      | in-Some+then-has_prompt+in_ok-add_prompts w ↦ subst (λ (found : Vec SymId Global). AreOff p found.items) (sym w.found-is) w.in_ok-add_prompts.ensures
      | in-Some+else-has_prompt+in_ok-add_lines w ↦ subst (λ (found : Vec SymId Global). AreOff p found.items) (sym w.found-is) w.in_ok-add_lines.ensures
      | in_default w ↦ none_off p c.match-symbol.found.items (ap (λ (found : Vec SymId Global). found.items) w.found-is ∙ c.new-found.ensures.items)
    ])
