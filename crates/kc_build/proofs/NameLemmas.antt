-- The names of a tree are distinct, and so the tree of a root file is well formed.
use Rattle.std.proofs.Common.{Err, List, Ok, Result, ℕ, ◌≡◌}
use Rattle.kc_language.specs.{Expansion.{Expands, Files, ReadSoFar, Refused}, Statements.statements, Symbols.TreeFacts}
use Rattle.kc_entries.specs.{PartsOfSymbols.tree_of_log, WellFormed.IsWellFormed}
use Rattle.kc_build.specs.Trees.{TreesAreWellFormed}
use Rattle.kc_build.proofs.BuildLemmas.{whole-formed}
use Rattle.kc_read.proofs.{DefinedLemmas.expanded_known, NumberingLemmas.names-distinct, WholeLemmas.shaped}

log-formed : (files : Files) (root : List ℕ) (tree : TreeFacts) (e : Result ReadSoFar Refused) → Expands files root e → Ok tree ≡ tree_of_log e → IsWellFormed tree
log-formed files root tree (Ok log) expands is =
    whole-formed log.lines tree (expanded_known files root log expands) (names-distinct (statements log.lines)) (shaped files root log expands) is
log-formed files root tree (Err r) expands is = absurd cc

pub trees-formed : TreesAreWellFormed
trees-formed files root tree (e, expands, is) = log-formed files root tree e expands is
