-- Trusted: The table of a solution.
use Rattle.std.specs.Prelude.{length, ◌≡◌}
use Rattle.kc_language.specs.{Texts.{Solution, known}, Values.name_count}
use Rattle.kc_values.specs.{TableFacts.known_at, declared.table.Table.Table}

-- it is of the tree, and tells what is known
pub record IsTableOf (s : Solution) (t : Table) : Type 0 where
  pub tree : t.tree.now ≡ s.tree
  pub full : length t.values ≡ name_count s.tree
  pub known_is : known_at t ≡ known s
