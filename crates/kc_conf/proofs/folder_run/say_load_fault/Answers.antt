-- The name is the fault's.
use Rattle.kc_conf.proofs.folder_run.say_load_fault.Goals as goal

pub returns-in-CannotRead : goal.returns-in-CannotRead
returns-in-CannotRead g c = rw (c.in-CannotRead.is, ← c.deref.ensures.value) c.try_to_say_error.ensures
