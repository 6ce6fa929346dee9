-- For proofs: A tree that was read, and one that was accepted.
use Rattle.kc_read.specs.Files.{files_in}
use Rattle.kc_read.specs.declared.file_map.FileMap.{FileMap}
use Rattle.std.specs.Borrow.{Bor}
use Rattle.std.specs.Prelude.{◌≡◌, ◌≢◌, ℕ, Bool, false, List, Option, None, Some, Result, Ok, Err, option_map}
use Rattle.kc_language.specs.Symbols.{IsTreeOf}
use Rattle.kc_language.specs.Expansion.{AreOpened, Files}
use Rattle.kc_read.specs.RefusalView.{refusal_view}
use Rattle.kc_language.specs.declared.diagnostics.Cause.TheVariants.{Memory}
use Rattle.kc_read.specs.declared.refusal.Refusal.{Refusal}
use Rattle.kc_options.specs.PartsOfOutcome.{wants_sources}
use Rattle.kc_solve.specs.Orders.{IsOrderOf}
use Rattle.kc_outcome.specs.Outcome.{Options, root_file, IsAcceptedTree, IsRefusedTree}
use Rattle.kc_conf.specs.declared.accepted.OrderedTree.{OrderedTree}
use Rattle.kc_conf.specs.declared.accepted.TreeReading.{TreeReading}

-- these files were kept, or were not wanted
abbrev pub AreKept : Files → Bool → Option FileMap → Type 0
AreKept files keeps None = keeps ≡ false
AreKept files keeps (Some kept) = files_in kept ≡ files

-- they are there, or the options do not want them
abbrev pub AreSources : Files → Options → Option (Bor FileMap) → Type 0
AreSources files options lent = AreKept files (wants_sources options) (option_map (λ map. map.now) lent)

-- no tree is accepted for this reason, unless there was not enough memory
abbrev pub IsRefusalOf : Files → List ℕ → Refusal → Type 0
IsRefusalOf files root r = r.cause ≢ Memory → IsRefusedTree files root (refusal_view r)

-- the result of reading these files: the tree of the root file, the files that it opens, and the files, if kept
pub record IsReadOf (files : Files) (root : List ℕ) (keeps : Bool) (read : TreeReading) : Type 0 where
  pub built : IsTreeOf files root (Ok read.tree)
  pub opened : AreOpened files root read.opened
  pub kept : AreKept files keeps read.files

abbrev pub IsReadingOf : Files → List ℕ → Bool → Result TreeReading Refusal → Type 0
IsReadingOf files root keeps (Ok read) = IsReadOf files root keeps read
IsReadingOf files root keeps (Err r) = IsRefusalOf files root r

-- its symbols are in order
abbrev pub IsReady : OrderedTree → Type 0
IsReady accepted = IsOrderOf accepted.laid accepted.order

-- the accepted tree of these files, with the files that it opens, and the files, if kept
pub record IsOrderedOf (files : Files) (root : List ℕ) (keeps : Bool) (accepted : OrderedTree) : Type 0 where
  pub tree : IsAcceptedTree files root accepted.laid.tree.now
  pub opened : AreOpened files root accepted.opened.now
  pub kept : AreKept files keeps (option_map (λ map. map.now) accepted.files)

abbrev pub IsOrderingOf : Files → List ℕ → Bool → Result OrderedTree Refusal → Type 0
IsOrderingOf files root keeps (Ok accepted) = IsOrderedOf files root keeps accepted
IsOrderingOf files root keeps (Err r) = IsRefusalOf files root r

-- the same, with the files, if the options want them
abbrev pub IsAcceptedOf : Files → Options → OrderedTree → Type 0
IsAcceptedOf files options = IsOrderedOf files (root_file options) (wants_sources options)
