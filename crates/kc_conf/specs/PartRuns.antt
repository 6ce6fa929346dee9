-- For proofs: What a run leaves before it reports why it stopped early, alone or as one of many.
use Rattle.std.specs.Prelude.{◌≡◌, ◌≢◌, ℕ, Bool, ◌&&◌, ◌||◌, List, [], ◌++◌, Result, Ok, Err}
use Rattle.kc_language.specs.Expansion.{AreOpened, Files}
use Rattle.kc_language.specs.Symbols.{TreeFacts}
use Rattle.kc_io.specs.Inputs.{AreInputs, InputFile, bytes_of, still_told}
use Rattle.kc_io.specs.Log.{Event, Log, Leads, TriesToSay}
use Rattle.kc_conf.specs.Accepted.{IsAcceptedOf}
use Rattle.kc_conf.specs.Faults.{AreLines, Breaks, Completes, clearing, event_of, refused_name_of}
use Rattle.kc_conf.specs.Many.{RunsAll, StopsAtTree}
use Rattle.kc_conf.specs.How.{IsHowOutcome}
use Rattle.kc_conf.specs.PartsOfMany.{told_before}
use Rattle.kc_outcome.specs.Outcome.{Options, IsOutcome, Outcome, is_not_empty, is_done, lines_text, reported, refused_if, root_file}
use Rattle.kc_language.specs.Statements.{out_of_memory_line}
use Rattle.kc_conf.specs.Reads.{IsReportStop}
use Rattle.kc_outcome.specs.declared.outcome.Status.{Status}
use Rattle.kc_outcome.specs.declared.outcome.Status.TheVariants.{Faulted}
use Rattle.kc_conf.specs.declared.accepted.OrderedTree.{OrderedTree}
use Rattle.kc_conf.specs.declared.reply.Asked.{Asked}
use Rattle.kc_conf.specs.declared.stop.Stop.{Stop}
use Rattle.kc_conf.specs.declared.stop.Stop.TheVariants.{OutOfMemory, Failed}

-- the text was reported; or there was not enough memory, or the diagnostics failed
abbrev pub SaysLines : List ℕ → Result (Unit {0}) Stop → Log → Log → Type 0
SaysLines text (Ok _) old new = Leads [] text old new
SaysLines text (Err OutOfMemory) old new = Leads [] [] old new
SaysLines text (Err (Failed f)) old new = IsReportStop (Failed f) × (text ≢ []) × Leads (event_of (Failed f)) [] old new

-- `strictly`, if a part of the run is still to come; and whether anything was reported before it
abbrev pub strictly_after : Options → Bool → Outcome → Outcome
strictly_after options before part = refused_if options (is_done part.status && (options.strict_tree && (before || is_not_empty part.warned))) part

-- This is left of the outcome after `told`, which was reported before: all of it, if a name is refused.
abbrev pub IsLeft : Files → Options → TreeFacts → List ℕ → List (List ℕ) → Outcome → Type 0
IsLeft files options tree told all left = (opened : List (List ℕ)) × AreOpened files (root_file options) opened
    × IsOutcome files options all (reported (told_before told (refused_name_of options opened tree)) left)

-- the same of the outcome of a question
abbrev pub IsHowLeft : Files → Options → Asked → TreeFacts → List ℕ → List (List ℕ) → Outcome → Type 0
IsHowLeft files options asked tree told all left = (opened : List (List ℕ)) × AreOpened files (root_file options) opened
    × IsHowOutcome files options asked all (reported (told_before told (refused_name_of options opened tree)) left)

-- Of the warnings of this accepted tree, `told` were reported before, and the run reports the others: `before` of the tree.
pub record TellsRest (files : Files) (options : Options) (accepted : OrderedTree) (before : TreeFacts → List ℕ) (told : List ℕ) : Type 0 where
  pub accepts : IsAcceptedOf files options accepted
  pub both : lines_text accepted.laid.tree.now.warnings ≡ told ++ before accepted.laid.tree.now
  pub lines : AreLines (before accepted.laid.tree.now)

module _ (files : Files) (options : Options) (before : TreeFacts → List ℕ) where
  -- A run with this outcome stopped early, and has not yet reported why.
  pub record IsBrokenOff (inputs : List InputFile) (outcome : Outcome) (stop : Stop) (old new : Log) : Type 0 where
    pub done : List Event
    pub front : List ℕ
    pub breaks : Breaks files options before inputs outcome (still_told old new) stop done front
    pub log : Leads (done ++ event_of stop ++ clearing options stop) front old new

  -- it completed, or stopped early
  abbrev pub EndsSo : List InputFile → Outcome → Result Status Stop → Log → Log → Type 0
  EndsSo inputs outcome (Ok status) old new = Completes files options inputs outcome old new status
  EndsSo inputs outcome (Err stop) old new = IsBrokenOff inputs outcome stop old new

  -- A run that reports `before` of the tree before it reads its input files. `IsIt` says what its outcome is.
  pub record Leaves (IsIt : List (List ℕ) → Outcome → Type 0) (result : Result Status Stop) (old new : Log) : Type 0 where
    pub inputs : List InputFile
    pub are_inputs : AreInputs (still_told old new) options inputs
    pub outcome : Outcome
    pub is_outcome : IsIt (bytes_of inputs) outcome
    pub ends : EndsSo inputs outcome result old new

-- ---- many configurations

-- A run for many configurations, which has not yet reported that there was not enough memory.
abbrev pub EndsEach : (TreeFacts → Options → Log → Log → Status → Bool → Type 0) → Files → List ℕ → (ℕ → Options → Type 0) → ℕ → Result Status Stop → Log → Log → Type 0
EndsEach turn files root options count (Ok status) old new = RunsAll turn files root options count old new status
EndsEach turn files root options count (Err OutOfMemory) old new = Leads [] [] old new
EndsEach turn files root options count (Err (Failed f)) old new = StopsAtTree files root old new Faulted

abbrev pub AnswersAll : Result Status Stop → Status → Log → Log → Type 0
AnswersAll (Ok ended) status old new = (status ≡ ended) × (new ≡ old)
AnswersAll (Err OutOfMemory) status old new = (status ≡ Faulted) × TriesToSay out_of_memory_line old new
AnswersAll (Err (Failed f)) status old new = (status ≡ Faulted) × (new ≡ old)
