use Rattle.kc_language.specs.Values.{known_from}
use Rattle.kc_possible.proofs.PlaceLemmas.{within-set}
use Rattle.kc_possible.proofs.possible.set_dependency.Goals as goal

pub returns-in-Some-clause-sound : goal.returns-in-Some-clause-sound
returns-in-Some-clause-sound c user V under =
    let tree = c.args.p.now.laid.tree.now in
    let old = c.requires user V under in
    record {
      typed = old.typed;
      symbols = old.symbols;
      contexts = old.contexts;
      visibles = old.visibles;
      dependencies = within-set c.args.p.now.dependencies.items c.args.id.0 c.dependency_bounds-bounds.result _ old.dependencies (c.dependency_bounds-bounds.ensures (known_from tree V) old);
      modes = old.modes;
    }
