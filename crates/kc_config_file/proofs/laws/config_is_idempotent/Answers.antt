use Rattle.kc_language.specs.ConfigFile.{place_at}
use Rattle.kc_config_file.proofs.{IdempotentLaws.idempotent_again, ValueTextLemmas.values_fit_lines}
use Rattle.kc_input.proofs.DefinedLemmas.{has_names}
use Rattle.kc_values.proofs.ModeLaws.{members_are_bools, members_are_theirs}
use Rattle.kc_config_file.proofs.laws.config_is_idempotent.Goals as goal

pub returns : goal.returns
returns c tree prefix places V is_pre is numbers titles =
    let theirs = members_are_theirs tree is.formed in
    let fits = values_fit_lines tree (place_at places) V is.formed.texts is.held.allowed_all c.equations_read_needs.ensures c.needs_are_symbols.ensures is.solves is.accepted numbers in
    idempotent_again tree (place_at places) V is.formed theirs (members_are_bools tree is.formed) (has_names tree is.formed) is.formed.symbols_shown is.formed.texts.titles is.solves fits prefix is_pre titles
    is.accepted c.accepted_have_one_solution.ensures.agree (c.idempotent_where.ensures tree (place_at places) V is.formed is.held.allowed_all is.solves)
