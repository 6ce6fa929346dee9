-- The numbers of the names and the root file.
use Rattle.std.proofs.Common.{List, ℕ, sym, subst₂, map, string_bytes, length, ◌∙◌}
use Rattle.std.proofs.lemmas.List.{length-map}
use Rattle.kc_read.specs.Files.{files_in}
use Rattle.kc_disk.specs.Program.{GivesOptions, TakesTurns}
use Rattle.kc_disk.specs.EachSteps.{as_named, with_included}
use Rattle.kc_disk.proofs.each.take_loaded.Goals as goal

pub returns-then-is_some : goal.returns-then-is_some
returns-then-is_some g c = with_included (sym c.is_some.ensures ∙ c.if-is_some.true) c.take_turns_including.ensures

pub returns : goal.returns
returns g c =
    let named = c.args.named.now in
    let each = named.each.now in
    let names = map string_bytes named.names.now in
    as_named (sym c.is_some.ensures ∙ c.if-is_some.false)
    (subst₂
    (λ (first : List ℕ) (n : ℕ). TakesTurns named.asked (files_in c.args.files) first (GivesOptions each names) n (g.D.Device.log c.args.device.now) (g.D.Device.log c.take_turns.new.device) c.take_turns.result)
    c.as_str-root.ensures.value (sym (length-map named.names.now string_bytes)) c.take_turns.ensures)
