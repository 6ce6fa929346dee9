-- A name is in the table already, or the table holds more.
use Rattle.std.proofs.Common.{◌≡◌, ◌+◌, ◌∙◌, ap, sym, subst, true, arith, length, map, string_bytes, List, String, Global}
use Rattle.std.proofs.lemmas.List.{length-map}
use Rattle.clap.specs.Words.{Text}
use Rattle.kc_language.specs.Expressions.{all_mentioned}
use Rattle.kc_words.specs.CommandLine.{is_among, writes}
use Rattle.kc_words.specs.Clashes.{Holds, NoneIsAmong}
use Rattle.kc_words.proofs.ApartLemmas.{holds-more, name-at, twice-found}
use Rattle.kc_words.proofs.apart.names_written.Goals as goal

pub returns-in-Some-clause-err : goal.returns-in-Some-clause-err
returns-in-Some-clause-err c =
    let same : length (map string_bytes c.args.configurations.now) ≡ length c.args.configurations.now = length-map c.args.configurations.now string_bytes in
    let is = ap (map string_bytes) c.deref.ensures.value ∙ c.in_ok-names.ensures
    ∙ ap (writes c.args.each.now) (c.as_str.ensures.value ∙ sym (name-at c.args.configurations.now c.loop-config.config-index c.config-item.result (omega arith) c.config-item.is)) in
    twice-found c.args.each.now (map string_bytes c.args.configurations.now) c.loop-config.written c.loop-config.config-index c.in-Some.name.now (omega arith) c.loop-config.invariant c.in-Some.ensures.0
    (subst (λ (t : List Text). is_among c.in-Some.name.now t ≡ true) is c.in-Some.ensures.1) c.written_twice.result c.written_twice.ensures

pub loop-config-preserved : goal.loop-config-preserved
loop-config-preserved c =
    let same : length (map string_bytes c.args.configurations.now) ≡ length c.args.configurations.now = length-map c.args.configurations.now string_bytes in
    let is = c.in_ok-names.ensures
    ∙ ap (writes c.args.each.now) (c.as_str.ensures.value ∙ sym (name-at c.args.configurations.now c.loop-config.config-index c.config-item.result (omega arith) c.config-item.is)) in
    let none = subst (λ (t : List (String Global)). NoneIsAmong c.loop-config.written (map string_bytes t)) c.deref.ensures.value c.in-None.ensures in
    let added = c.in_ok-hold_all-in-None.ensures ∙ ap (λ t. all_mentioned c.loop-config.written (map string_bytes t)) c.deref-in-None.ensures.value in
    subst (λ (t : List Text). Holds (writes c.args.each.now) (map string_bytes c.args.configurations.now) (c.loop-config.config-index + 1) t) (sym added)
    (holds-more (writes c.args.each.now) (map string_bytes c.args.configurations.now) c.loop-config.config-index c.loop-config.written (map string_bytes c.in_ok-names.names.items) (omega arith) is none c.loop-config.invariant)
