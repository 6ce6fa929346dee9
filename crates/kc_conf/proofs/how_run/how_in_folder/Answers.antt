-- A run over what was loaded is one over the folder's files, since these expand as that does.
use Rattle.kc_read.specs.Files.{files_in}
use Rattle.std.proofs.Common.{List, ℕ, string_bytes, refl, subst, subst₂, Err}
use Rattle.kc_load.specs.Loading.{Suffices}
use Rattle.kc_load.specs.Folder.{IsLoadFault, failed_load, Leads, files_told}
use Rattle.kc_outcome.specs.Outcome.{root_file}
use Rattle.kc_conf.specs.How.{loaded, unloaded}
use Rattle.kc_conf.proofs.FolderLemmas.{flipped}
use Rattle.kc_conf.proofs.HowLemmas.{how_over}
use Rattle.kc_conf.proofs.how_run.how_in_folder.Goals as goal

pub returns-in-Ok : goal.returns-in-Ok
returns-in-Ok g c =
    let options = c.args.options.now in
    let map = files_in c.in-Ok.files in
    let told = files_told (g.F.Folder.state c.load.new.folder) in
    let e : Suffices told (string_bytes options.root) (root_file options) options.is_flat map =
    subst₂ (λ (dir first : List ℕ). Suffices told dir first options.is_flat map) c.as_str.ensures.value c.as_str-2.ensures.value c.in-Ok.ensures.enough
    in
    loaded e.0 e.1 c.in-Ok.ensures.leads (how_over options map e.0 (flipped (root_file options) e.0 map e.2) c.args.asked.now _ _ _ c.how.ensures)

pub returns-in-Err : goal.returns-in-Err
returns-in-Err g c =
    let options = c.args.options.now in
    let told = files_told (g.F.Folder.state c.load.new.folder) in
    unloaded c.in-Err.fault
    (subst₂ (λ (dir first : List ℕ). IsLoadFault told dir first c.in-Err.fault) c.as_str.ensures.value c.as_str-2.ensures.value c.in-Err.ensures.fault)
    (subst (λ (dir : List ℕ). Leads (failed_load {A = Unit {0}} dir (Err c.in-Err.fault)) (g.F.Folder.state c.args.folder.now) (g.F.Folder.state c.load.new.folder)) c.as_str.ensures.value c.in-Err.ensures.leads)
    c.say_load_fault.ensures refl
