use Rattle.kc_language.specs.{Needs.{needs, needs_in}, Values.{name_count, rhs, user_place}}
use Rattle.kc_order.proofs.MinimalLaws.{nothing_can_go, restores}
use Rattle.kc_values.specs.GivenLines.{minimal_line}
use Rattle.kc_values.proofs.{FixedLines.is_minimal, ModeLaws.members_are_theirs, TreeNeeds.{below_count, free_count}}
use Rattle.kc_values.proofs.laws.minimal_restores.Goals as goal

pub returns-clause-restores : goal.returns-clause-restores
returns-clause-restores c tree user V keep free formed solves tells =
    restores (name_count tree) (needs_in (needs tree)) (user_place tree) (rhs tree) (below_count tree (c.needs_are_symbols.ensures tree)) (c.equations_read_needs.ensures tree)
    (minimal_line tree user V) V keep (free_count tree free)
    (is_minimal tree user V solves (members_are_theirs tree formed) keep tells)

pub returns-clause-nothing_to_spare : goal.returns-clause-nothing_to_spare
returns-clause-nothing_to_spare c tree user V keep formed solves tells =
    nothing_can_go (name_count tree) (needs_in (needs tree)) (user_place tree) (rhs tree) (below_count tree (c.needs_are_symbols.ensures tree)) (c.equations_read_needs.ensures tree)
    (minimal_line tree user V) V keep
    (is_minimal tree user V solves (members_are_theirs tree formed) keep tells)
