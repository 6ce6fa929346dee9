-- The turns of many configurations, and the tree before them.
use Rattle.std.proofs.Common.{◌≡◌, ◌⊎◌, inl, inr, ℕ, suc, ◌+◌, ◌-◌, ◌<◌, ◌≤◌, Bool, true, false, List, [], refl, sym, subst, ◌∙◌, Option, None, Some, Result, Ok, Err, arith}
use Rattle.std.specs.Prelude.{IfOk}
use Rattle.kc_language.specs.Expansion.{AreOpened, Files}
use Rattle.kc_language.specs.Symbols.{TreeFacts}
use Rattle.kc_outcome.specs.Outcome.{Options, IsAcceptedTree, lines_text, root_file}
use Rattle.kc_io.specs.Log.{Log, Leads, TriesToSay, failed}
use Rattle.kc_io.specs.declared.device.Action.{Action}
use Rattle.kc_io.specs.declared.device.Action.TheVariants.{Report}
use Rattle.kc_io.proofs.LogLemmas.{leads_nothing}
use Rattle.kc_options.specs.PartsOfOutcome.{wants_sources}
use Rattle.kc_read.specs.RefusalView.{refusal_view}
use Rattle.kc_read.specs.declared.file_map.FileMap.{FileMap}
use Rattle.kc_read.specs.declared.refusal.Refusal.{Refusal}
use Rattle.kc_conf.specs.Accepted.{AreKept, IsAcceptedOf, IsOrderedOf, IsRefusalOf}
use Rattle.kc_conf.specs.Endings.{RefusesTree}
use Rattle.kc_conf.specs.Faults.{event_of}
use Rattle.kc_conf.specs.Many.{AreRootedAt, CannotSay, KeepsFor, RunsAll, TakeTurns, TakesTurn, greater, last, next, no_memory, no_options, none, refused_tree, runs, stops, unsaid_refusal, unsaid_warnings}
use Rattle.kc_conf.specs.PartRuns.{AnswersAll, EndsEach, SaysLines}
use Rattle.kc_conf.specs.Reads.{IsReportStop}
use Rattle.kc_conf.specs.declared.accepted.OrderedTree.{OrderedTree}
use Rattle.kc_outcome.specs.declared.outcome.Status.{Status}
use Rattle.kc_outcome.specs.declared.outcome.Status.TheVariants.{Done, Refused, Usage, Faulted}
use Rattle.kc_conf.specs.declared.stop.Stop.{Stop}
use Rattle.kc_conf.specs.declared.stop.Stop.TheVariants.{OutOfMemory, Failed}
use Rattle.kc_conf.proofs.TellingLemmas.{Leads-then}

-- ---- all turns

pub greater-done : (a : Status) → greater a Done ≡ a
greater-done Done = refl
greater-done Refused = refl
greater-done Usage = refl
greater-done Faulted = refl

pub greater-assoc : (a b c : Status) → greater a (greater b c) ≡ greater (greater a b) c
greater-assoc Done b c = refl
greater-assoc Refused Done c = refl
greater-assoc Refused Refused Done = refl
greater-assoc Refused Refused _ = refl
greater-assoc Refused Usage Done = refl
greater-assoc Refused Usage _ = refl
greater-assoc Refused Faulted c = refl
greater-assoc Usage Done c = refl
greater-assoc Usage Refused Done = refl
greater-assoc Usage Refused _ = refl
greater-assoc Usage Usage Done = refl
greater-assoc Usage Usage _ = refl
greater-assoc Usage Faulted c = refl
greater-assoc Faulted b c = refl

-- whatever the others do that are left, this and they make the whole
pub record TurnsSoFar (turn : Options → Log → Log → Status → Bool → Type 0) (options : ℕ → Options → Type 0) (count i : ℕ) (status : Status) (old now : Log) : Type 0 where
  pub with : (new : Log) (others : Status) → TakeTurns turn options i (count - i) now new others → TakeTurns turn options 0 count old new (greater status others)

pub TurnsSoFar-none : {turn : Options → Log → Log → Status → Bool → Type 0} {options : ℕ → Options → Type 0} {count : ℕ} {log : Log} → TurnsSoFar turn options count 0 Done log log
TurnsSoFar-none {turn = turn} {options = options} {count = count} {log = log} = record {
  with = λ new others taken. let e : count - 0 ≡ count = omega arith in subst (λ (n : ℕ). TakeTurns turn options 0 n log new others) e taken;
}

module _ {turn : Options → Log → Log → Status → Bool → Type 0} {options : ℕ → Options → Type 0} {count i : ℕ} {status : Status} {old mid : Log} (so_far : TurnsSoFar turn options count i status old mid) where
  module _ (within : i < count) where
    left-more : suc (count - suc i) ≡ count - i
    left-more = omega (arith, within)

    pub TurnsSoFar-next : {one : Status} {new : Log} → TakesTurn turn (options i) mid new one false → TurnsSoFar turn options count (i + 1) (greater status one) old new
    TurnsSoFar-next {one = one} {new = new} taken = record {
      with = λ end others rest.
          let e : i + 1 ≡ suc i = omega arith in
          let rest' : TakeTurns turn options (suc i) (count - suc i) new end others = subst (λ (n : ℕ). TakeTurns turn options n (count - n) new end others) e rest in
          rw (← greater-assoc status one others) (so_far.with end (greater one others) (rw (← left-more) (next i (count - suc i) mid new end one others taken rest')));
    }

    pub TakeTurns-last : {one : Status} {new : Log} → TakesTurn turn (options i) mid new one true → TakeTurns turn options 0 count old new (greater status one)
    TakeTurns-last {one = one} {new = new} taken = so_far.with new one (rw (← left-more) (last i (count - suc i) mid new one taken))

  pub TakeTurns-all : count ≤ i → TakeTurns turn options 0 count old mid status
  TakeTurns-all beyond =
      let e : 0 ≡ count - i = omega (arith, beyond) in
      subst (λ (s : Status). TakeTurns turn options 0 count old mid s) (greater-done status)
      (so_far.with mid Done (subst (λ (n : ℕ). TakeTurns turn options i n mid mid Done) e (none i mid)))

-- the turn of options that were given is that of possible ones
pub TakesTurn-given : {E : Type 0} {turn : Options → Log → Log → Status → Bool → Type 0} {are_options : Options → Type 0} {given : Result Options E} {old new : Log} {status : Status} {is_over : Bool} →
    IfOk given are_options → TakesTurn turn (λ own. given ≡ Ok own) old new status is_over → TakesTurn turn are_options old new status is_over
TakesTurn-given {are_options = are_options} possible (runs own is taken) = runs own (subst (λ r. IfOk r are_options) is possible) taken
TakesTurn-given possible (no_options said faulted over) = no_options said faulted over

-- ---- the tree

-- the diagnostics are what failed
CannotSay-report : (stop : Stop) (old new : Log) → IsReportStop stop → Leads (event_of stop) [] old new → CannotSay old new
CannotSay-report OutOfMemory old new never log = absurd never
CannotSay-report (Failed f) old new (report, name) log =
    (f.fault, subst (λ (n : List ℕ). Leads (failed Report n f.fault) [] old new) name (subst (λ (a : Action). Leads (failed a f.name.now f.fault) [] old new) report log))

module _ (turn : TreeFacts → Options → Log → Log → Status → Bool → Type 0) (files : Files) (root : List ℕ) (options : ℕ → Options → Type 0) (count : ℕ) (old mid : Log) where
  -- the tree is refused, or there was no memory for it
  pub EndsEach-refused : (r : Refusal) (result : Result Status Stop) → IsRefusalOf files root r → RefusesTree r result old mid → EndsEach turn files root options count result old mid
  EndsEach-refused r result why (inl (is, same)) = rw (is, same) (leads_nothing old)
  EndsEach-refused r (Ok status) why (inr (known, (is, log))) = stops (refused_tree (refusal_view r) (why known) log is)
  EndsEach-refused r (Err OutOfMemory) why (inr (known, (never, log))) = absurd never
  EndsEach-refused r (Err (Failed f)) why (inr (known, (report, log))) = unsaid_refusal (refusal_view r) (why known) (CannotSay-report (Failed f) old mid report log) refl

  -- its warnings were not said
  pub EndsEach-unsaid : (tree : TreeFacts) {text : List ℕ} (stop : Stop) → IsAcceptedTree files root tree → text ≡ lines_text tree.warnings → SaysLines text (Err stop) old mid → EndsEach turn files root options count (Err stop) old mid
  EndsEach-unsaid tree OutOfMemory accepted is log = log
  EndsEach-unsaid tree (Failed f) accepted is (report, some, log) = unsaid_warnings tree accepted (λ e. some (is ∙ e)) (CannotSay-report (Failed f) old mid report log) refl

  -- what is answered
  pub RunsAll-answered : (result : Result Status Stop) (status : Status) (new : Log) → EndsEach turn files root options count result old mid → AnswersAll result status mid new →
      RunsAll turn files root options count old new status
  RunsAll-answered (Ok ended) status new ran (is, same) = rw (is, same) ran
  RunsAll-answered (Err OutOfMemory) status new log (is, (report, said)) = stops (no_memory (report, Leads-then log said) is)
  RunsAll-answered (Err (Failed f)) status new ends (is, same) = rw (is, same) (stops ends)

-- what is kept for all is kept for options that want it
kept-for : (files : Files) (keeps wants : Bool) (kept : Option FileMap) → (wants ≡ true → keeps ≡ true) → AreKept files keeps kept → AreKept files wants kept
kept-for files keeps wants (Some kept) asks is = is
kept-for files keeps true None asks is = absurd (let clash = sym (asks refl) in cc)
kept-for files keeps false None asks is = refl

-- all options are of this tree
pub IsAcceptedOf-rooted : (files : Files) (root : List ℕ) (keeps : Bool) (are_options : ℕ → Options → Type 0) (accepted : OrderedTree) → IsOrderedOf files root keeps accepted →
    KeepsFor are_options keeps → AreRootedAt root are_options → (i : ℕ) (options : Options) → are_options i options → IsAcceptedOf files options accepted
IsAcceptedOf-rooted files root keeps are_options accepted of keeps_for rooted i options is =
    let e = sym (rooted i options is) in
    record {
      tree = subst (λ r. IsAcceptedTree files r accepted.laid.tree.now) e of.tree;
      opened = subst (λ r. AreOpened files r accepted.opened.now) e of.opened;
      kept = kept-for files keeps (wants_sources options) _ (keeps_for i options is) of.kept;
    }
