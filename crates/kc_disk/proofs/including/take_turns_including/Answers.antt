-- There was not enough memory for the input files.
use Rattle.kc_disk.specs.Program.{no_pieces_for_each}
use Rattle.kc_disk.proofs.including.take_turns_including.Goals as goal

pub returns-in-Err : goal.returns-in-Err
returns-in-Err g c = no_pieces_for_each c.say_no_memory.ensures
