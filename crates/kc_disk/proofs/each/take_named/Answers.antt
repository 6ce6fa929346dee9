-- The files that were loaded stand for those of the folder.
use Rattle.kc_read.specs.Files.{files_in}
use Rattle.std.proofs.{Common.{Err, List, map, refl, string_bytes, subst, subst₂, ℕ}}
use Rattle.kc_load.specs.Loading.{Suffices}
use Rattle.kc_load.specs.Folder.{IsLoadFault, failed_load, Leads, files_told}
use Rattle.kc_conf.proofs.FolderLemmas.{flipped}
use Rattle.kc_disk.specs.EachSteps.{not_loaded}
use Rattle.kc_disk.proofs.EachLemmas.{named-loaded}
use Rattle.kc_disk.proofs.each.take_named.Goals as goal

pub returns-in-Ok : goal.returns-in-Ok
returns-in-Ok g c =
    let named = c.args.named.now in
    let each = named.each.now in
    let options = each.options in
    let told = files_told (g.F.Folder.state c.load.new.folder) in
    let map = files_in c.in-Ok.files in
    let root = string_bytes options.kconfig in
    let e : Suffices told (string_bytes options.root) root options.is_flat map =
    subst₂ (λ (dir first : List ℕ). Suffices told dir first options.is_flat map) c.as_str.ensures.value c.as_str-2.ensures.value c.in-Ok.ensures.enough
    in
    named-loaded named.asked each _ _ _ _ _ _ map e.0 (record { files_are = e.1; leads = c.in-Ok.ensures.leads }) (flipped root e.0 map e.2) c.take_loaded.ensures

pub returns-in-Err : goal.returns-in-Err
returns-in-Err g c =
    let options = c.args.named.now.each.now.options in
    let told = files_told (g.F.Folder.state c.load.new.folder) in
    not_loaded c.in-Err.fault (record {
      cause = subst₂ (λ (dir first : List ℕ). IsLoadFault told dir first c.in-Err.fault) c.as_str.ensures.value c.as_str-2.ensures.value c.in-Err.ensures.fault;
      leads = subst (λ (dir : List ℕ). Leads (failed_load {A = Unit {0}} dir (Err c.in-Err.fault)) (g.F.Folder.state c.args.folder.now) (g.F.Folder.state c.load.new.folder)) c.as_str.ensures.value c.in-Err.ensures.leads;
    }) c.say_load_fault.ensures refl
