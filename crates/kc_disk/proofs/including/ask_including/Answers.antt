-- The same question, or no memory for the pieces.
use Rattle.std.proofs.Common.{refl}
use Rattle.kc_disk.specs.Program.{no_pieces_to_ask}
use Rattle.kc_disk.proofs.including.ask_including.Goals as goal

pub returns-in-Err : goal.returns-in-Err
returns-in-Err g c = no_pieces_to_ask refl c.say_no_memory.ensures
