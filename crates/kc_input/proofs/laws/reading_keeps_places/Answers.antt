use Rattle.kc_input.proofs.StreamLemmas.{calls_keep}
use Rattle.kc_input.proofs.laws.reading_keeps_places.Goals as goal

pub returns : goal.returns
returns c = calls_keep c.places_hold_what_is_allowed.ensures.setting c.places_hold_what_is_allowed.ensures.selecting
