-- Each runs, or answers what is asked.
use Rattle.kc_disk.proofs.each.take_turns.Goals as goal

pub returns-in-Some : goal.returns-in-Some
returns-in-Some g c = rw c.in-Some.is c.how_each.ensures

pub returns-in-None : goal.returns-in-None
returns-in-None g c = rw c.in-None.is c.run_each.ensures
