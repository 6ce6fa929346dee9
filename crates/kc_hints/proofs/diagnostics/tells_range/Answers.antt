use Rattle.std.proofs.Common.{ap, sym, ◌∙◌}
use Rattle.std.specs.List.{list_any}
use Rattle.kc_entries.proofs.ListLemmas.{list_any-map}
use Rattle.kc_hints.specs.Facts.{is_outside}
use Rattle.kc_hints.proofs.diagnostics.tells_range.Goals as goal

pub returns : goal.returns
returns c =
    c.is_some_outside.ensures ∙ ap (list_any (λ line. is_outside line.now)) c.deref.ensures.value
    ∙ sym (list_any-map is_outside (λ line. line.now) c.in_ok-found.found.items) ∙ ap (list_any is_outside) c.in_ok-found.ensures
