use Rattle.std.proofs.Common.{refl}
use Rattle.kc_language.specs.ConfigFile.{place_at}
use Rattle.kc_solve.specs.Kept.{valuation}
use Rattle.kc_solve.proofs.{SolvedSteps.table_is, WrittenSteps.solved_at}
use Rattle.kc_solve.proofs.solve.solved_of.Goals as goal

pub written_if-requires-clause-solved : goal.written_if-requires-clause-solved
written_if-requires-clause-solved c = let is = c.requires.table in solved_at c.args.table (place_at c.args.user.now) is.full is.solves

pub invariant_of-solved : goal.invariant_of-solved
invariant_of-solved c =
    let t = c.args.table in
    let is = c.requires.table in
    record {
      accepted = c.requires.accepted;
      user = c.requires.user;
      full = is.full;
      solves = is.solves;
      only = c.accepted_have_one_solution.ensures.agree t.tree.now (place_at c.args.user.now) c.requires.accepted (valuation t.tree.now t.values) is.solves;
      selections_are = c.in_ok-selections.ensures.selected;
      defaults_are = c.in_ok-selections.ensures.default;
      differing_are = c.in_ok-differing.ensures;
      written_are = c.in_ok-written.ensures;
      warnings_are = c.in_ok-warnings.ensures;
    }

pub returns-clause-solution : goal.returns-clause-solution
returns-clause-solution c = record { tree_is = refl; places_are = refl; solves = c.is_solution.ensures }

pub returns-clause-table : goal.returns-clause-table
returns-clause-table c = table_is c.args.table c.args.user.now _ refl c.requires.table.full
