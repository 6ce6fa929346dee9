-- Those so far, none of which is visible.
use Rattle.std.proofs.Common.{[], ◌∷◌}
use Rattle.kc_language.specs.declared.expressions.SymId.{SymId}
use Rattle.kc_explain.specs.ChoiceFacts.{member_told}
use Rattle.kc_explain.specs.FactLists.{shown}
use Rattle.kc_explain.specs.StatedFacts.{counts}
use Rattle.kc_explain.proofs.PartLemmas.{Through}
use Rattle.kc_explain.proofs.choice_facts.add_members.Given as goal

abbrev pub invariant-loop-member : goal.invariant-loop-member
invariant-loop-member l = Through counts (λ (m : SymId). member_told l.t m ∷ []) (shown l.t l.fn.facts.items) l.members l.member-index (shown l.t l.facts.items)
