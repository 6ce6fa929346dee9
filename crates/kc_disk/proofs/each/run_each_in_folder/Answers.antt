-- The steps make the run.
use Rattle.std.proofs.Common.{None, List, String, Global, map, refl, string_bytes, subst}
use Rattle.kc_words.specs.CommandLine.{AreApart, IsClash}
use Rattle.kc_disk.specs.EachSteps.{RunsNamed}
use Rattle.kc_disk.proofs.EachLemmas.{named-runs, not-apart, not-listed}
use Rattle.kc_disk.proofs.each.run_each_in_folder.Goals as goal

pub returns-in-Err : goal.returns-in-Err
returns-in-Err g c = not-listed None c.args.each.now _ c.in-Err.fault _ _ _ c.in-Err.ensures c.say_load_fault.ensures

pub returns-in-Ok-check_names : goal.returns-in-Ok-check_names
returns-in-Ok-check_names g c = named-runs None c.args.each.now _ c.in-Ok.names _ c.in-Ok.ensures _ _ _ _
    (λ runs. subst (λ (l : List (String Global)). AreApart c.args.each.now (map string_bytes l)) c.deref.ensures.value c.in-Ok-check_names.ensures.ok)
    (subst (λ (l : List (String Global)). RunsNamed None c.args.each.now (map string_bytes l) (g.F.Folder.state c.names_of.new.folder) (g.F.Folder.state c.take_named.new.folder) (g.D.Device.log c.args.device.now) (g.D.Device.log c.take_named.new.device) c.take_named.result) c.deref-in-Ok-check_names.ensures.value c.take_named.ensures)

pub returns : goal.returns
returns g c = not-apart None c.args.each.now _ c.in-Ok.names _ c.in-Ok.ensures c.in-Err-check_names.usage _ _ _ refl
    (subst (λ (l : List (String Global)). IsClash c.args.each.now (map string_bytes l) c.in-Err-check_names.usage) c.deref.ensures.value c.in-Err-check_names.ensures.err) (c.say_usage.ensures.status, c.say_usage.ensures.says)
