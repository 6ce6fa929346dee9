use Rattle.std.proofs.Common.{refl}
use Rattle.kc_disk.specs.Program.{no_pieces, ran_pieces}
use Rattle.kc_disk.proofs.including.run_inputs.Goals as goal

pub returns-in-Ok : goal.returns-in-Ok
returns-in-Ok g c = ran_pieces _ c.in-Ok.ensures c.run_pieces.ensures

pub returns-in-Err : goal.returns-in-Err
returns-in-Err g c = no_pieces refl c.say_no_memory.ensures
