use Rattle.std.proofs.Common.{ap, sym, ◌∙◌}
use Rattle.std.specs.List.{list_any}
use Rattle.kc_entries.proofs.ListLemmas.{list_any-map}
use Rattle.kc_hints.specs.Facts.{may_have_fact}
use Rattle.kc_hints.proofs.diagnostics.waits.Goals as goal

pub returns : goal.returns
returns c =
    c.may_some_have_fact.ensures ∙ ap (list_any (λ line. may_have_fact line.now)) c.deref.ensures.value
    ∙ sym (list_any-map may_have_fact (λ line. line.now) c.in_ok-found.found.items) ∙ ap (list_any may_have_fact) c.in_ok-found.ensures
