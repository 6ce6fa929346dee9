use Rattle.std.proofs.Common.{subst, sym}
use Rattle.kc_language.specs.{Expressions.truth_of_value, Values.{known_from, user_place}}
use Rattle.kc_possible.specs.Bounds.{IsWithin}
use Rattle.kc_possible.proofs.{PlaceLemmas.within-set, SolvedLemmas.known-solved}
use Rattle.kc_possible.proofs.possible.set_symbol.Goals as goal

pub returns-in-Some-clause-sound : goal.returns-in-Some-clause-sound
returns-in-Some-clause-sound c user V under =
    let tree = c.args.p.now.laid.tree.now in
    let old = c.requires user V under in
    record {
      typed = old.typed;
      symbols = within-set c.args.p.now.symbols.items c.args.id.0 c.symbol_bounds-bounds.result _ old.symbols (subst (λ v. IsWithin c.symbol_bounds-bounds.result (truth_of_value v)) (sym (known-solved tree user V under c.args.id))
          (c.symbol_bounds-bounds.ensures (user (user_place tree c.args.id.0)) (known_from tree V) old));
      contexts = old.contexts;
      visibles = old.visibles;
      dependencies = old.dependencies;
      modes = old.modes;
    }
