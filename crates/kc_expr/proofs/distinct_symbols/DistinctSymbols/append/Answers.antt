-- What the check left open in `append`.
use Rattle.std.proofs.Common.{◌∙◌, ◌∷◌, ◌++◌, ◌==◌, [], ap, sym}
use Rattle.std.specs.List.{list_any}
use Rattle.kc_expr.proofs.OrderLemmas.{says_added}
use Rattle.kc_expr.proofs.distinct_symbols.DistinctSymbols.append.Goals as goal

pub invariant_of-self-2 : goal.invariant_of-self-2
invariant_of-self-2 c = λ i.
    says_added c.self.inside.symbols.items c.reach.new.marks.items c.args.id (λ k. c.in_ok-reach.ensures.same k ∙ c.self.invariant k) c.in_ok-reach.ensures.reached i
    ∙ ap (list_any (λ s. i == s.0)) (sym c.in_ok-push.ensures.items)

pub returns-clause-order : goal.returns-clause-order
returns-clause-order c = c.in_ok-push.ensures.items ∙ ap (λ l. l ++ c.args.id ∷ []) c.self.view_is
