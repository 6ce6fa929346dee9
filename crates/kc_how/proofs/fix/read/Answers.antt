use Rattle.std.proofs.Common.{Err, ap, ◌∙◌, ◌≡◌}
use Rattle.kc_input.specs.declared.fault.InputFault.TheVariants.{InputLineTooLong}
use Rattle.kc_how.proofs.FragmentLemmas.{all-read, part-read}
use Rattle.kc_how.proofs.fix.read.Goals as goal

pub returns-in-Err-InputLineTooLong : goal.returns-in-Err-InputLineTooLong
returns-in-Err-InputLineTooLong c =
    let fails = c.in-Err-InputLineTooLong in
    let fault : fails.field-0 ≡ InputLineTooLong fails.field-0-0 = fails.field-0-is in
    part-read c.args.tree.now c.args.prefix.now c.args.text.now fails.field-0-0 c.feed.result c.new-reader.result c.feed.new.self c.in_ok-input.input c.feed.new.user
    c.new-warned.result.items c.feed.new.told c.feed.ensures (fails.is ∙ ap Err fault) c.new-reader.ensures c.in_ok-input.ensures c.new-warned.ensures.items

pub returns-in-Ok-finish : goal.returns-in-Ok-finish
returns-in-Ok-finish c =
    all-read c.args.tree.now c.args.prefix.now c.args.text.now c.new-reader.result c.feed.new.self c.finish.new.self c.in_ok-input.input c.feed.new.user c.finish.new.user
    c.new-warned.result.items c.feed.new.told c.finish.new.told (rw c.in-Ok.is at c.feed.ensures) (rw c.in-Ok-finish.is at c.finish.ensures)
    c.new-reader.ensures c.in_ok-input.ensures c.new-warned.ensures.items
