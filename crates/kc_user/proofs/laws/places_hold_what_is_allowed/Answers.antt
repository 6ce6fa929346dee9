use Rattle.kc_user.proofs.PlacesLemmas.{empty_are, setting_keeps, selecting_keeps, texts_short}
use Rattle.kc_user.proofs.laws.places_hold_what_is_allowed.Goals as goal

pub returns-clause-empty : goal.returns-clause-empty
returns-clause-empty c = empty_are

pub returns-clause-setting : goal.returns-clause-setting
returns-clause-setting c = setting_keeps

pub returns-clause-selecting : goal.returns-clause-selecting
returns-clause-selecting c = selecting_keeps

pub returns-clause-short : goal.returns-clause-short
returns-clause-short c = texts_short
