use Rattle.kc_language.specs.{Expressions.Truth, Needs.{needs, needs_in}, Values.{equations, name_count}, declared.expressions.Tri.TheVariants.N}
use Rattle.kc_order.proofs.{OneSolution.exists, Unique.only}
use Rattle.kc_values.proofs.TreeNeeds.{below_count, free_count}
use Rattle.kc_values.proofs.laws.accepted_have_one_solution.Goals as goal

pub returns-clause-exists : goal.returns-clause-exists
returns-clause-exists c tree user free =
    exists (Truth N) (name_count tree) (needs_in (needs tree)) (equations tree user) (below_count tree (c.needs_are_symbols.ensures tree)) (c.equations_read_needs.ensures tree user)
    (free_count tree free)

pub returns-clause-agree : goal.returns-clause-agree
returns-clause-agree c tree user free V v =
    only (name_count tree) (needs_in (needs tree)) (equations tree user) (below_count tree (c.needs_are_symbols.ensures tree)) (c.equations_read_needs.ensures tree user) (free_count tree free) V v
