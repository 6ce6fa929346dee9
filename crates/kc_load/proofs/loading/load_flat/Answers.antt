use Rattle.std.proofs.Common.{subst, sym, ◌∙◌}
use Rattle.kc_load.specs.Folder.{IsNext, files_told}
use Rattle.kc_load.proofs.FlatLemmas.{first_is_next, loads_found, loads_none}
use Rattle.kc_load.proofs.loading.load_flat.Goals as goal

pub returns-in_ok-insert-in-Ok-Some-clause-loaded : goal.returns-in_ok-insert-in-Ok-Some-clause-loaded
returns-in_ok-insert-in-Ok-Some-clause-loaded g c =
    loads_found _ _ _ _ _ c.keyed-map.result c.insert.new.self (c.in_ok-name.ensures.items ∙ c.as_bytes.ensures.value) c.keyed-map.ensures c.in_ok-insert-in-Ok-Some.ensures.ok
    (rw c.in-Ok-Some.field-0-is at c.in-Ok-Some.ensures.answer)

pub returns-in-Ok-None-clause-loaded : goal.returns-in-Ok-None-clause-loaded
returns-in-Ok-None-clause-loaded g c = loads_none _ _ _ c.keyed-map.result c.keyed-map.ensures (rw c.in-Ok-None.field-0-is at c.in-Ok-None.ensures.answer)

pub returns-in-Err-Device-clause-fault : goal.returns-in-Err-Device-clause-fault
returns-in-Err-Device-clause-fault g c =
    subst (IsNext (files_told (g.F.Folder.state c.read_named.new.folder)) c.args.dir.now c.args.kconfig.now) (sym (c.in_ok-name.ensures.items ∙ c.as_bytes.ensures.value))
    (first_is_next _ c.args.dir.now c.args.kconfig.now c.utf8.kconfig)
