use Rattle.kc_conf.proofs.RerunLemmas.{texts_read_again}
use Rattle.kc_conf.proofs.laws.texts_are_read_again.Goals as goal

pub returns : goal.returns
returns c =
    let again = c.minimal_gives_back.ensures in
    texts_read_again c.trees_are_well_formed.ensures c.reading_leaves_allowed_places.ensures.streams again.restores again.nothing_to_spare c.config_is_idempotent.ensures
    c.written_texts_are_short.ensures
