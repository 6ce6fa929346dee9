use Rattle.kc_language.specs.ConfigFile.{place_at}
use Rattle.kc_config_file.proofs.{MinimalLaws.{gives_back, none_to_spare}, MinimalTextLemmas.{keeps_differing, tells_differing}}
use Rattle.kc_input.proofs.DefinedLemmas.{has_names}
use Rattle.kc_values.proofs.ModeLaws.{members_are_bools, members_are_theirs}
use Rattle.kc_config_file.proofs.laws.minimal_gives_back.Goals as goal

pub returns-clause-restores : goal.returns-clause-restores
returns-clause-restores c tree prefix places V is_pre is =
    let theirs = members_are_theirs tree is.formed in
    let keep = keeps_differing tree (place_at places) V theirs is.solves in
    let tells = tells_differing tree (place_at places) V theirs is.solves in
    gives_back tree (place_at places) V is.formed theirs (members_are_bools tree is.formed) (has_names tree is.formed) is.held.allowed_all c.differing_are_allowed.ensures is.solves prefix is_pre
    (c.minimal_restores.ensures.restores tree (place_at places) V keep is.accepted is.formed is.solves tells)

pub returns-clause-nothing_to_spare : goal.returns-clause-nothing_to_spare
returns-clause-nothing_to_spare c tree prefix places V is_pre is =
    let theirs = members_are_theirs tree is.formed in
    let keep = keeps_differing tree (place_at places) V theirs is.solves in
    let tells = tells_differing tree (place_at places) V theirs is.solves in
    none_to_spare tree (place_at places) V is.formed theirs (members_are_bools tree is.formed) (has_names tree is.formed) is.held.allowed_all c.differing_are_allowed.ensures is.solves prefix is_pre
    (c.minimal_restores.ensures.nothing_to_spare tree (place_at places) V keep is.formed is.solves tells)
