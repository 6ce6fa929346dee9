use Rattle.std.proofs.Common.{add-one, ap, sym, take, ◌∙◌}
use Rattle.kc_include.proofs.PlaceLemmas.{folder-none, folder-there}
use Rattle.kc_include.proofs.places.folder_before.Goals as goal

pub returns-in-Some : goal.returns-in-Some
returns-in-Some c =
    let name = c.args.name.now in
    ap (λ k. take k name) (add-one c.in-Some.last) ∙ sym (folder-there name c.in-Some.last c.in-Some.ensures.0 c.in-Some.ensures.1)

pub returns-in-None : goal.returns-in-None
returns-in-None c = sym (folder-none c.args.name.now c.in-None.ensures)
