-- For proofs: Facts about the lines of a root file that mention `count` names.
use Rattle.std.specs.Prelude.{List, ℕ}
use Rattle.kc_language.specs.Statements.{Numbered}
use Rattle.kc_entries.specs.ListFacts.{AreBelow, AreChoicesApart, AreTypesDefined}
use Rattle.kc_build.specs.{Nesting.AreBlocksClosed, SelectorRows.AreTargetsBelow}

pub record AreSound (count : ℕ) (ss : List Numbered) : Type 0 where
  pub below : AreBelow count ss
  pub targets : AreTargetsBelow count ss
  pub types : AreTypesDefined ss
  pub apart : AreChoicesApart ss
  pub closed : AreBlocksClosed ss
