use Rattle.kc_io.specs.{Delivered.text_view, Delivery.moved}
use Rattle.kc_io.proofs.WentLemmas.{items_all, items_stopped}
use Rattle.kc_io.proofs.steps.move_all.Goals as goal

pub returns-in-Err : goal.returns-in-Err
returns-in-Err g c =
    items_stopped (λ text. moved (text_view text)) _ c.loop-text.text-index c.text-item.result _ _ _ _ c.loop-text-test.true c.text-item.is c.loop-text.invariant c.in-Err.ensures

pub returns : goal.returns
returns g c = items_all (λ text. moved (text_view text)) _ c.loop-text.text-index _ _ c.loop-text-test.false c.loop-text.invariant
