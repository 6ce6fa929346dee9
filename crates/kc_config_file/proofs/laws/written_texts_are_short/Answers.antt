use Rattle.kc_language.specs.ConfigFile.{place_at}
use Rattle.kc_config_file.proofs.{ShortTextLemmas.{config_is_short, minimal_is_short}, ValueTextLemmas.values_fit}
use Rattle.kc_config_file.proofs.laws.written_texts_are_short.Goals as goal

pub returns : goal.returns
returns c tree prefix places V is_pre is =
    let fits = values_fit tree (place_at places) V is.formed.texts is.held.allowed_all c.equations_read_needs.ensures c.needs_are_symbols.ensures is.solves is.accepted in
    (config_is_short tree (place_at places) V prefix is_pre is.formed fits, minimal_is_short tree (place_at places) V prefix is_pre is.formed fits)
