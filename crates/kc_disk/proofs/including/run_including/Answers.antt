use Rattle.std.proofs.Common.{refl}
use Rattle.kc_disk.specs.Program.{no_pieces}
use Rattle.kc_disk.proofs.including.run_including.Goals as goal

pub returns-in-Err : goal.returns-in-Err
returns-in-Err g c = no_pieces refl c.say_no_memory.ensures
