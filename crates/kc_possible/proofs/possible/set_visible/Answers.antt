use Rattle.kc_language.specs.Values.{known_from}
use Rattle.kc_possible.proofs.PlaceLemmas.{within-set}
use Rattle.kc_possible.proofs.possible.set_visible.Goals as goal

pub returns-in-Some-clause-sound : goal.returns-in-Some-clause-sound
returns-in-Some-clause-sound c user V under =
    let tree = c.args.p.now.laid.tree.now in
    let old = c.requires user V under in
    record {
      typed = old.typed;
      symbols = old.symbols;
      contexts = old.contexts;
      visibles = within-set c.args.p.now.visibles.items c.args.id.0 c.visible_bounds-bounds.result _ old.visibles (c.visible_bounds-bounds.ensures (known_from tree V) old);
      dependencies = old.dependencies;
      modes = old.modes;
    }
