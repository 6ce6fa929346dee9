-- The numbers of the names.
use Rattle.std.proofs.Common.{ℕ, None, map, string_bytes, length, subst, sym}
use Rattle.std.proofs.lemmas.List.{length-map}
use Rattle.kc_read.specs.Files.{files_in}
use Rattle.kc_disk.specs.Program.{GivesPieced, TakesTurns, no_pieces_for_each, ran_each}
use Rattle.kc_disk.proofs.including.take_inputs.Goals as goal

pub returns-in-Ok : goal.returns-in-Ok
returns-in-Ok g c =
    let named = c.args.named.now in
    let each = named.each.now in
    let names = map string_bytes named.names.now in
    ran_each (subst (λ (n : ℕ). TakesTurns named.asked (files_in c.args.files) (string_bytes each.options.kconfig) (GivesPieced each names) n None None c.take_pieces.result)
    (sym (length-map named.names.now string_bytes)) c.take_pieces.ensures)

pub returns-in-Err : goal.returns-in-Err
returns-in-Err g c = no_pieces_for_each c.say_no_memory.ensures
