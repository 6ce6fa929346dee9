use denote.Enum.Bare.{same_true}
use Rattle.std.proofs.Common.{ap, rules, sym, ◌∙◌}
use Rattle.kc_language.specs.{Expressions.Truth, Values.{known_from, user_place}, contracts.expressions.Tri.the_type}
use Rattle.kc_possible.proofs.SolvedLemmas.{known-solved}
use Rattle.kc_possible.proofs.dead.may_be.Goals as goal

pub returns-then-is_never_m : goal.returns-then-is_never_m
returns-then-is_never_m c refused user V under is =
    let tree = c.args.p.now.laid.tree.now in
    let is-m = same_true the_type (search rules) _ _ (sym c.if-eq.ensures) in
    c.is_never_m.ensures c.if-is_never_m.true (user (user_place tree c.args.id.0)) (known_from tree V) (c.requires user V under)
    (sym (known-solved tree user V under c.args.id) ∙ is ∙ ap Truth is-m)
