use Rattle.std.proofs.Common.{refl}
use Rattle.kc_disk.specs.Program.{asked_pieces, no_pieces_to_ask}
use Rattle.kc_disk.proofs.including.ask_inputs.Goals as goal

pub returns-in-Ok : goal.returns-in-Ok
returns-in-Ok g c = asked_pieces _ c.in-Ok.ensures c.ask_pieces.ensures

pub returns-in-Err : goal.returns-in-Err
returns-in-Err g c = no_pieces_to_ask refl c.say_no_memory.ensures
