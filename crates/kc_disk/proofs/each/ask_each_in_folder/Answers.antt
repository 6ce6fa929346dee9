-- The steps make the answers.
use Rattle.std.proofs.Common.{◌≡◌, List, None, Some, String, Global, map, refl, string_bytes, subst}
use Rattle.kc_conf.specs.declared.reply.Asked.{Asked}
use Rattle.kc_disk.specs.EachSteps.{RunsNamed}
use Rattle.kc_disk.proofs.EachLemmas.{named-runs, not-listed}
use Rattle.kc_disk.proofs.each.ask_each_in_folder.Goals as goal

is_asked : (asked : Asked) → Some asked ≡ None → {A : Type 0} → A
is_asked asked none = absurd (cc)

pub returns-in-Ok : goal.returns-in-Ok
returns-in-Ok g c =
    let how = c.args.how.now in
    let asked : Asked = record { value = c.as_str.result; steps = how.steps } in (
      asked,
      record { value_is = c.as_str.ensures.value; steps_are = refl },
      named-runs (Some asked) how.each _ c.in-Ok.names _ c.in-Ok.ensures _ _ _ _ (λ none. is_asked asked none)
          (subst (λ (l : List (String Global)). RunsNamed (Some asked) how.each (map string_bytes l) (g.F.Folder.state c.names_of.new.folder) (g.F.Folder.state c.take_named.new.folder) (g.D.Device.log c.args.device.now) (g.D.Device.log c.take_named.new.device) c.take_named.result)
          c.deref.ensures.value c.take_named.ensures),
    )

pub returns-in-Err : goal.returns-in-Err
returns-in-Err g c =
    let how = c.args.how.now in
    let asked : Asked = record { value = c.as_str.result; steps = how.steps } in
    (asked, record { value_is = c.as_str.ensures.value; steps_are = refl }, not-listed (Some asked) how.each _ c.in-Err.fault _ _ _ c.in-Err.ensures c.say_load_fault.ensures)
