-- Trusted: A run that lists the prompts that no input makes visible.
-- Our own. It reads the tree and no input file, and ends in `ListsDead` and, for the tree of a folder, `FolderListsDead`.
use Rattle.std.specs.{List.flat_map, Prelude.{All, Bool, Err, List, Option, Result, [], codes, map, string_bytes, ℕ, ◌++◌, ◌∷◌, ◌≡◌}}
use Rattle.kc_language.specs.{Expansion.{Files, Refused}, Symbols.TreeFacts, Text.BeginsWith, Values.name, declared.expressions.SymId.SymId}
use Rattle.kc_outcome.specs.{Outcome.{IsAcceptedTree, IsRefusedTree, Options, Outcome, lines_text, refusal_line, refused_outcome, root_file, strictly}, declared.outcome.Status.{Status}}
use Rattle.kc_possible.specs.Possible.{AreSomeOf, IsDead, IsOff}
use Rattle.kc_io.specs.{Delivery.NamedText, Log.{Leads, Log, TriesToSay}}
use Rattle.kc_load.specs.{Folder.{AreFilesOf, FolderState, IsLoadFault, Leads as FolderLeads, failed_load, files_told}, declared.fault.LoadFault.LoadFault}
use Rattle.kc_conf.specs.{Endings.{Answers, Finishes}, Faults.{AreLines, diagnostics_of, load_line}, declared.stop.Stop.{Stop}}

-- A symbol, and symbols that stand in its way.
pub record DeadSymbol : Type 0 where
  pub symbol : SymId
  pub reasons : List SymId

abbrev pub symbols_of : List DeadSymbol → List SymId
symbols_of dead = map (λ d. d.symbol) dead

-- A line with the name of each symbol, and the names of those in its way.
abbrev pub reasons_text : TreeFacts → List SymId → List ℕ
reasons_text tree reasons = elim reasons [ [] ↦ [] | s ∷ more ↦ codes ": " ++ name tree s ++ flat_map (λ t. codes ", " ++ name tree t) more ]

abbrev pub dead_line : TreeFacts → DeadSymbol → List ℕ
dead_line tree d = name tree d.symbol ++ reasons_text tree d.reasons ++ codes "\n"

abbrev pub dead_text : TreeFacts → List DeadSymbol → List ℕ
dead_text tree dead = flat_map (dead_line tree) dead

-- What such a run leaves: the refusal of the tree; or its warnings and the text, unless --strict-tree refuses the warnings. Each symbol listed has a
-- prompt, and no input makes its prompts visible. They stand in the order of their first definitions. Each symbol in the way of one is n under any input.
pub data IsDeadOutcome (files : Files) (options : Options) (outcome : Outcome) : Type 0 where
  refused_tree : (r : Refused) → IsRefusedTree files (root_file options) r → outcome ≡ refused_outcome (refusal_line r) → IsDeadOutcome files options outcome
  listed : (tree : TreeFacts) (dead : List DeadSymbol) → IsAcceptedTree files (root_file options) tree → All (IsDead tree) (symbols_of dead) →
      AreSomeOf (symbols_of dead) tree.defined → All (λ d. All (IsOff tree) d.reasons) dead →
      outcome ≡ strictly options (record { texts = dead_text tree dead ∷ []; warned = lines_text tree.warnings; refusal = []; status = Status.Done }) →
      IsDeadOutcome files options outcome

-- the texts of an outcome for the file of this name
abbrev pub texts_for : List ℕ → Outcome → List NamedText
texts_for file outcome = map (λ text. record { name = file; bytes = text }) outcome.texts

-- There was not enough memory, and whole lines of the warnings were reported. Or the outcome's diagnostics were reported and its text was delivered, as
-- far as that did not fail.
pub data EndsList (options : Options) (file : List ℕ) (outcome : Outcome) (result : Result Status Stop) (old new : Log) : Type 0 where
  no_memory : (front : List ℕ) → result ≡ Err Stop.OutOfMemory → AreLines front → BeginsWith outcome.warned front → Leads [] front old new →
      EndsList options file outcome result old new
  finishes : Finishes options (diagnostics_of outcome) (texts_for file outcome) outcome.status result old new → EndsList options file outcome result old new

-- Then it is reported why the run stopped early, if it did.
pub record ListsDead (files : Files) (options : Options) (file : List ℕ) (old new : Log) (status : Status) : Type 0 where
  pub outcome : Outcome
  pub is_outcome : IsDeadOutcome files options outcome
  pub result : Result Status Stop
  pub mid : Log
  pub ends : EndsList options file outcome result old mid
  pub is_over : Bool
  pub answers : Answers options result status is_over mid new

-- The same over the files of a folder; or these could not be loaded, and nothing else is done.
pub data FolderListsDead (options : Options) (file : List ℕ) (folder folder_after : Option FolderState) (old new : Log) (status : Status) : Type 0 where
  loaded : (files : Files) → AreFilesOf (files_told folder_after) (string_bytes options.root) (root_file options) options.is_flat files → FolderLeads [] folder folder_after →
      ListsDead files options file old new status → FolderListsDead options file folder folder_after old new status
  unloaded : (fault : LoadFault) → IsLoadFault (files_told folder_after) (string_bytes options.root) (root_file options) fault →
      FolderLeads (failed_load {A = Unit {0}} (string_bytes options.root) (Err fault)) folder folder_after → TriesToSay (load_line fault) old new →
      status ≡ Status.Faulted → FolderListsDead options file folder folder_after old new status
