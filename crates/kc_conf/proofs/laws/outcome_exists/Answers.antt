use Rattle.kc_conf.specs.LawSteps.{SolutionExists}
use Rattle.kc_conf.specs.LawSteps.{AnswerExists}
use Rattle.kc_conf.proofs.ExistenceLemmas.{accepted_outcome, answer_exists, outcome_exists, solution_exists}
use Rattle.kc_conf.proofs.laws.outcome_exists.Goals as goal

pub returns-clause-solution : goal.returns-clause-solution
returns-clause-solution c = solution_exists c.accepted_have_one_solution.ensures.exists c.equations_read_needs.ensures c.needs_are_symbols.ensures

pub returns-clause-answer : goal.returns-clause-answer
returns-clause-answer c =
    answer_exists c.has_one_expansion.ensures c.unordered_have_a_loop.ensures.either c.unordered_have_a_loop.ensures.named c.needs_are_symbols.ensures
    c.needing_are_defined.ensures c.trees_are_well_formed.ensures

pub returns-clause-accepted : goal.returns-clause-accepted
returns-clause-accepted c =
    let solved : SolutionExists = solution_exists c.accepted_have_one_solution.ensures.exists c.equations_read_needs.ensures c.needs_are_symbols.ensures in
    accepted_outcome c.opened_are_one_list.ensures c.trees_are_well_formed.ensures c.reading_leaves_allowed_places.ensures.streams solved

pub returns-clause-outcome : goal.returns-clause-outcome
returns-clause-outcome c =
    let solved : SolutionExists = solution_exists c.accepted_have_one_solution.ensures.exists c.equations_read_needs.ensures c.needs_are_symbols.ensures in
    let answer : AnswerExists =
    answer_exists c.has_one_expansion.ensures c.unordered_have_a_loop.ensures.either c.unordered_have_a_loop.ensures.named c.needs_are_symbols.ensures
    c.needing_are_defined.ensures c.trees_are_well_formed.ensures in
    outcome_exists c.opened_are_one_list.ensures c.trees_are_well_formed.ensures c.reading_leaves_allowed_places.ensures.streams solved answer
