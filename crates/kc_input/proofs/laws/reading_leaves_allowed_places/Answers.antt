use Rattle.kc_input.proofs.StreamLemmas.{refusals_keep, streams_leave}
use Rattle.kc_input.proofs.laws.reading_leaves_allowed_places.Goals as goal

pub returns-clause-streams : goal.returns-clause-streams
returns-clause-streams c =
    let law = c.places_hold_what_is_allowed.ensures in
    streams_leave law.setting law.selecting law.empty

pub returns-clause-refusals : goal.returns-clause-refusals
returns-clause-refusals c =
    let law = c.places_hold_what_is_allowed.ensures in
    refusals_keep law.setting law.selecting
