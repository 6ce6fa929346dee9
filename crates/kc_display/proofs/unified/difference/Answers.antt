-- The text of all lines that are shown.
use Rattle.kc_display.proofs.ShownLemmas.{shows}
use Rattle.kc_display.proofs.unified.difference.Goals as goal

pub returns : goal.returns
returns c =
    shows c.args.name.now c.as_bytes.result.now c.args.old.now c.args.new.now c.in_ok-edits.edits.items c.deref.result.now c.new-page.result _ c.into_text.result
    c.as_bytes.ensures.value c.deref.ensures.value c.in_ok-edits.ensures c.new-page.ensures c.in_ok-add_all.ensures c.into_text.ensures
