use Rattle.std.proofs.{Common.{ap, map, not, rules, ◌∙◌}, lemmas.Fn.filter_same}
use Rattle.kc_io.specs.{Delivered.text_view, Log.is_held}
use Rattle.kc_io.proofs.DeliveryLemmas.{chosen_stale}
use Rattle.kc_io.proofs.delivery.choose.Goals as goal

pub returns-then-not-share_name : goal.returns-then-not-share_name
returns-then-not-share_name g c = λ journal known.
    ap (map text_view) (filter_same _ (λ text. not (is_held journal text.name.now text.bytes.items)) _ (λ x b f' k. search (rules, known)) _ _ c.retain.ensures.filtered)
    ∙ chosen_stale c.args.manner c.args.texts.now.items _ _ journal c.in-Replacing.is c.deref.ensures.value c.share_name.ensures (search rules)
