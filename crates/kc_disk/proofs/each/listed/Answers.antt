-- The list is the one that is asked for.
use Rattle.std.proofs.Common.{Option, Some, Result, Ok, Err, String, Vec, Global, string_bytes, ◌≡◌}
use Rattle.kc_load.specs.Folder.{FolderState}
use Rattle.kc_load.specs.declared.fault.LoadFault.{LoadFault}
use Rattle.kc_load.specs.declared.fault.LoadFault.TheVariants.{CannotRead, Memory}
use Rattle.kc_words.specs.declared.each.Each.{Each}
use Rattle.kc_disk.specs.EachSteps.{ReadsList, ReadsListIf}
use Rattle.kc_disk.proofs.each.listed.Goals as goal

of_list : (each : Each) (file : String Global) (result : Result (Vec (String Global) Global) LoadFault) (old new : Option FolderState) → each.list ≡ Some file →
    ReadsList (string_bytes file) result old new → ReadsListIf each result old new
of_list each file (Ok names) old new is (leads, are) = (leads, rw is are)
of_list each file (Err (CannotRead name)) old new is (none, named) = (file, is, none, named)
of_list each file (Err Memory) old new is failed = failed

pub returns-in-Some : goal.returns-in-Some
returns-in-Some g c =
    of_list c.args.each.now c.in-Some.list c.read_list.result _ _ c.in-Some.is (rw (← c.as_str.ensures.value) c.read_list.ensures)
