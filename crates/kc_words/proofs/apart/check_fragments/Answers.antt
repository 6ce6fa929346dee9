-- A fragment is in the table, or none is.
use Rattle.std.proofs.Common.{◌≡◌, subst, true, arith, length, map, string_bytes, List, String, Global}
use Rattle.std.proofs.lemmas.List.{length-map}
use Rattle.kc_words.specs.CommandLine.{is_among}
use Rattle.kc_words.specs.Clashes.{NoneIsAmong}
use Rattle.kc_words.proofs.ApartLemmas.{apart-many, fragment-clash}
use Rattle.kc_words.proofs.apart.check_fragments.Goals as goal

pub returns-in-Some-clause-err : goal.returns-in-Some-clause-err
returns-in-Some-clause-err c =
    let same : length (map string_bytes c.args.configurations.now) ≡ length c.args.configurations.now = length-map c.args.configurations.now string_bytes in
    fragment-clash c.args.each.now (map string_bytes c.args.configurations.now) c.args.written.now c.requires.written c.in-Some.name.now (omega arith) c.in-Some.ensures.0
    (subst (λ (t : List (String Global)). is_among c.in-Some.name.now (map string_bytes t) ≡ true) c.deref.ensures.value c.in-Some.ensures.1) c.written_and_read.result c.written_and_read.ensures

pub returns-in-None-clause-ok : goal.returns-in-None-clause-ok
returns-in-None-clause-ok c =
    apart-many c.args.each.now (map string_bytes c.args.configurations.now) c.args.written.now c.requires.written c.requires.own
    (subst (λ (t : List (String Global)). NoneIsAmong c.args.written.now (map string_bytes t)) c.deref.ensures.value c.in-None.ensures)
