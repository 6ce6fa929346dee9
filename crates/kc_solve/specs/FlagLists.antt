-- For proofs: The lists of selections that are kept of a solution.
use Rattle.std.specs.Prelude.{◌≡◌}
use Rattle.kc_language.specs.ConfigFile.{Places}
use Rattle.kc_values.specs.declared.table.Table.{Table}
use Rattle.kc_solve.specs.{Flags.{selected_by, selected_by_default}, declared.flags.ChoiceSelections.ChoiceSelections}

-- the selection of each choice, with the user's member and without it
pub record AreSelectionsOf (t : Table) (user : Places) (s : ChoiceSelections) : Type 0 where
  pub selected : s.selected.items ≡ selected_by t user
  pub default : s.default.items ≡ selected_by_default t
