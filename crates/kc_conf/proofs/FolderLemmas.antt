-- Over files that expand alike, trees, refusals, outcomes and runs are the same.
use Rattle.std.proofs.Common.{◌≡◌, ◌⊎◌, inl, inr, ℕ, suc, Bool, List, Result, Ok, ap, subst, sym, ◌∙◌}
use Rattle.std.specs.Prelude.{All}
use Rattle.kc_language.specs.Expansion.{AreOpened, Files, Refused}
use Rattle.kc_language.specs.Statements.{Located, Numbered}
use Rattle.kc_language.specs.Symbols.{TreeFacts, IsTreeOf}
use Rattle.kc_io.specs.Log.{Event, Log}
use Rattle.kc_load.specs.Loading.{ExpandsAlike}
use Rattle.kc_outcome.specs.declared.outcome.Status.{Status}
use Rattle.kc_conf.specs.declared.stop.Stop.{Stop}
use Rattle.kc_conf.specs.Faults.{AreFirstReads, AreReads, Breaks, Broken, Completes, Runs, in_delivery, in_input, in_diagnostics, no_memory, nothing, of_accepted, of_tree, refused_name as reads_no_name, refused_tree as reads_no_tree}
use Rattle.kc_io.specs.Inputs.{InputFile}
use Rattle.kc_conf.specs.Many.{AreRootedAt, EndsTurn, IsPart, RunsAll, RunsEach, RunsTurn, StopsAtTree, TakeTurns, TakesTurn}
use Rattle.kc_conf.specs.Many as many
use Rattle.kc_outcome.specs.Outcome.{Options, IsAcceptedTree, IsLenientOutcome, IsOutcome, IsOutcomeOfReading, IsRefusedTree, Outcome, accepted_tree, long_line, looped, no_tree, read_of, refused_if, refused_name, refused_tree, refuses_input, reported, root_file, unknown_symbol, whole}
use Rattle.kc_conf.specs.Faults.{IsRefusedName, NamesAreTaken}
use Rattle.kc_conf.proofs.Once.{lines_of_tree}
use Rattle.kc_conf.proofs.SourceLemmas.{done_outcome-same, lines-same}

-- in the other direction
pub flipped : (root : List ℕ) (files others : Files) → ExpandsAlike root files others → ExpandsAlike root others files
flipped root files others alike = record {
  gives = λ r. ((alike.gives r).1, (alike.gives r).0);
  holds = λ log d i l within. sym (alike.holds log ((alike.gives (Ok log)).1 d) i l within);
}

-- from these files to others
module _ (root : List ℕ) (files others : Files) (alike : ExpandsAlike root files others) where
  tree_over : (r : Result TreeFacts Refused) → IsTreeOf files root r → IsTreeOf others root r
  tree_over r x = (x.0, (alike.gives x.0).0 x.1, x.2)

  pub refused_over : (r : Refused) → IsRefusedTree files root r → IsRefusedTree others root r
  refused_over r (no_tree x) = no_tree (tree_over _ x)
  refused_over r (looped tree text x t e) = looped tree text (tree_over _ x) t e

  pub accepted_over : (tree : TreeFacts) → IsAcceptedTree files root tree → IsAcceptedTree others root tree
  accepted_over tree x = record { built = tree_over _ x.built; accepted = x.accepted }

  -- what is opened over these is opened over the others
  pub opened_over : (opened : List (List ℕ)) → AreOpened files root opened → AreOpened others root opened
  opened_over opened are log expands = are log ((alike.gives _).1 expands)

  -- and the other way round
  opened_back : (opened : List (List ℕ)) → AreOpened others root opened → AreOpened files root opened
  opened_back opened are log expands = are log ((alike.gives _).0 expands)

module _ (options : Options) (files others : Files) (alike : ExpandsAlike (root_file options) files others) where
  abbrev top : List ℕ
  top = root_file options

  -- what follows from the input files is made of the lines' files alone
  lines_held : (tree : TreeFacts) → IsAcceptedTree files top tree → All (λ (l : Located Numbered). others.bytes l.file ≡ files.bytes l.file) tree.lines
  lines_held tree accepted = let (log, expands, is) = lines_of_tree files top tree accepted in rw is (lines-same files others log (alike.holds log expands))

  rest_over : (opened : List (List ℕ)) (tree : TreeFacts) (all : List (List ℕ)) (rest : Outcome) → IsAcceptedTree files top tree →
      IsOutcomeOfReading files options opened tree (read_of options tree all) rest → IsOutcomeOfReading others options opened tree (read_of options tree all) rest
  rest_over opened tree all rest accepted (long_line stop stopped is) = long_line stop stopped is
  rest_over opened tree all rest accepted (whole solution none solves is) =
      let read = read_of options tree all in
      let same = subst (λ (t : TreeFacts). All (λ (l : Located Numbered). others.bytes l.file ≡ files.bytes l.file) t.lines) (sym solves.tree_is) (lines_held tree accepted) in
      whole solution none solves
      (is ∙ ap (λ o. reported read.warned (refused_if options (refuses_input options read.input solution) o)) (done_outcome-same files others options opened read.input solution same))

  lenient_over : (opened all : List (List ℕ)) (outcome : Outcome) → IsLenientOutcome files options opened all outcome → IsLenientOutcome others options opened all outcome
  lenient_over opened all outcome (refused_tree r x e) = refused_tree r (refused_over top files others alike r x) e
  lenient_over opened all outcome (refused_name tree name x unread e) = refused_name tree name (accepted_over top files others alike tree x) unread e
  lenient_over opened all outcome (unknown_symbol tree asked x read unknown e) = unknown_symbol tree asked (accepted_over top files others alike tree x) read unknown e
  lenient_over opened all outcome (accepted_tree tree x read known y) =
      accepted_tree tree (accepted_over top files others alike tree x) read known (y.0, rest_over opened tree all y.0 x y.1, y.2)

  outcome_over : (all : List (List ℕ)) (outcome : Outcome) → IsOutcome files options all outcome → IsOutcome others options all outcome
  outcome_over all outcome (lenient, opened, is, are, same) = (lenient, opened, lenient_over opened all lenient is, opened_over top files others alike opened are, same)

  -- where no name is refused over these files, none is over the others
  read_over : NamesAreTaken files options → NamesAreTaken others options
  read_over taken tree opened accepted are =
      taken tree opened (accepted_over top others files (flipped top files others alike) tree accepted) (opened_back top files others alike opened are)

  -- a name that is refused over these files is refused over the others
  name_over : (name : List ℕ) → IsRefusedName files options name → IsRefusedName others options name
  name_over name r = record {
    tree = r.tree;
    accepted = accepted_over top files others alike r.tree r.accepted;
    opened = r.opened;
    are_opened = opened_over top files others alike r.opened r.are_opened;
    refuses = r.refuses;
  }

  reads_over : (inputs : List InputFile) (told : Log) (events : List Event) → AreReads files options inputs told events → AreReads others options inputs told events
  reads_over inputs told events (reads_no_tree r x) = reads_no_tree r (refused_over top files others alike r x)
  reads_over inputs told events (reads_no_name name x) = reads_no_name name (name_over name x)
  reads_over inputs told events (of_tree tree events' x read there to) = of_tree tree events (accepted_over top files others alike tree x) (read_over read) there to

  first_over : (inputs : List InputFile) (done : List Event) → AreFirstReads files options inputs done → AreFirstReads others options inputs done
  first_over inputs done nothing = nothing
  first_over inputs done (of_accepted tree d left x read split) = of_accepted tree d left (accepted_over top files others alike tree x) (read_over read) split

  breaks_over : (before : TreeFacts → List ℕ) (inputs : List InputFile) (outcome : Outcome) (told : Log) (stop : Stop) (done : List Event) (front : List ℕ) →
      Breaks files options before inputs outcome told stop done front → Breaks others options before inputs outcome told stop done front
  breaks_over before inputs outcome told stop done front (no_memory d f first lines begins) = no_memory d f (first_over inputs d first) lines begins
  breaks_over before inputs outcome told stop done front (in_diagnostics f d fr action name first lines more) = in_diagnostics f d fr action name (first_over inputs d first) lines more
  breaks_over before inputs outcome told stop done front (in_input f tree file d saying x read action name up_to) =
      in_input f tree file d saying (accepted_over top files others alike tree x) (read_over read) action name up_to
  breaks_over before inputs outcome told stop done front (in_delivery f events d are left) = in_delivery f events d (reads_over inputs told events are) left

  completes_over : (inputs : List InputFile) (outcome : Outcome) (old new : Log) (status : Status) → Completes files options inputs outcome old new status → Completes others options inputs outcome old new status
  completes_over inputs outcome old new status c = record {
    events = c.events;
    are_reads = reads_over inputs _ c.events c.are_reads;
    made = c.made;
    stale = c.stale;
    of_old = c.of_old;
    log = c.log;
    status_is = c.status_is;
    only_checked = c.only_checked;
  }

  broken_over : (before : TreeFacts → List ℕ) (inputs : List InputFile) (outcome : Outcome) (old new : Log) (status : Status) →
      Broken files options before inputs outcome old new status → Broken others options before inputs outcome old new status
  broken_over before inputs outcome old new status b = record {
    stop = b.stop;
    done = b.done;
    front = b.front;
    report = b.report;
    breaks = breaks_over before inputs outcome _ b.stop b.done b.front b.breaks;
    is_report = b.is_report;
    log = b.log;
    status_is = b.status_is;
  }

  pub ends_over : (before : TreeFacts → List ℕ) (inputs : List InputFile) (outcome : Outcome) (old new : Log) (status : Status) →
      Completes files options inputs outcome old new status ⊎ Broken files options before inputs outcome old new status →
      Completes others options inputs outcome old new status ⊎ Broken others options before inputs outcome old new status
  ends_over before inputs outcome old new status (inl c) = inl (completes_over inputs outcome old new status c)
  ends_over before inputs outcome old new status (inr b) = inr (broken_over before inputs outcome old new status b)

  -- a run over these files is one over the others
  pub runs_over : (old new : Log) (status : Status) → Runs files options old new status → Runs others options old new status
  runs_over old new status r = record {
    inputs = r.inputs;
    are_inputs = r.are_inputs;
    outcome = r.outcome;
    is_outcome = outcome_over _ r.outcome r.is_outcome;
    ends = ends_over _ r.inputs r.outcome old new status r.ends;
  }

-- ---- many configurations

module _ (root : List ℕ) (files others : Files) (alike : ExpandsAlike root files others) where
  -- these options begin at the same file
  pub alike_for : (options : Options) → root_file options ≡ root → ExpandsAlike (root_file options) files others
  alike_for options rooted = subst (λ (first : List ℕ). ExpandsAlike first files others) (sym rooted) alike

  part_over : (tree : TreeFacts) (options : Options) (all : List (List ℕ)) (part : Outcome) → root_file options ≡ root → IsPart files tree options all part → IsPart others tree options all part
  part_over tree options all part rooted (opened, are, is) =
      let same = alike_for options rooted in
      (opened, opened_over (root_file options) files others same opened are, outcome_over options files others same all _ is)

  pub end_over : (options : Options) (inputs : List InputFile) (part : Outcome) (old new : Log) (status : Status) (is_over : Bool) → root_file options ≡ root →
      EndsTurn files options inputs part old new status is_over → EndsTurn others options inputs part old new status is_over
  unfolding broken_over
  end_over options inputs part old new status is_over rooted (many.whole c goes_on) =
      many.whole (completes_over options files others (alike_for options rooted) inputs part old new status c) goes_on
  end_over options inputs part old new status is_over rooted (many.broken b ends) =
      many.broken (broken_over options files others (alike_for options rooted) _ inputs part old new status b) ends

  turn_over : (tree : TreeFacts) (options : Options) (old new : Log) (status : Status) (is_over : Bool) → root_file options ≡ root →
      RunsTurn files tree options old new status is_over → RunsTurn others tree options old new status is_over
  turn_over tree options old new status is_over rooted r = record {
    inputs = r.inputs;
    are_inputs = r.are_inputs;
    part = r.part;
    is_part = part_over tree options _ r.part rooted r.is_part;
    ends = end_over options r.inputs r.part old new status is_over rooted r.ends;
  }

  module _ {turn other : Options → Log → Log → Status → Bool → Type 0}
      (over : (options : Options) (old new : Log) (status : Status) (is_over : Bool) → root_file options ≡ root → turn options old new status is_over → other options old new status is_over)
      (options : ℕ → Options → Type 0) (rooted : AreRootedAt root options) where
    takes_over : (i : ℕ) (old new : Log) (status : Status) (is_over : Bool) → TakesTurn turn (options i) old new status is_over → TakesTurn other (options i) old new status is_over
    takes_over i old new status is_over (many.runs o are r) = many.runs o are (over o old new status is_over (rooted i o are) r)
    takes_over i old new status is_over (many.no_options says is ends) = many.no_options says is ends

    turns_over : (i left : ℕ) (old new : Log) (status : Status) → TakeTurns turn options i left old new status → TakeTurns other options i left old new status
    turns_over _ _ _ _ _ (many.none i log) = many.none i log
    turns_over _ _ _ _ _ (many.next i left old mid new status rest t ts) =
        many.next i left old mid new status rest (takes_over i old mid status _ t) (turns_over (suc i) left mid new rest ts)
    turns_over _ _ _ _ _ (many.last i left old new status t) = many.last i left old new status (takes_over i old new status _ t)

  stops_over : (old new : Log) (status : Status) → StopsAtTree files root old new status → StopsAtTree others root old new status
  stops_over old new status (many.refused_tree r x says is) = many.refused_tree r (refused_over root files others alike r x) says is
  stops_over old new status (many.unsaid_refusal r x unsaid is) = many.unsaid_refusal r (refused_over root files others alike r x) unsaid is
  stops_over old new status (many.unsaid_warnings tree x some unsaid is) = many.unsaid_warnings tree (accepted_over root files others alike tree x) some unsaid is
  stops_over old new status (many.no_memory says is) = many.no_memory says is

  -- a run for many configurations over these files is one over the others
  pub all_over : {turn other : TreeFacts → Options → Log → Log → Status → Bool → Type 0} →
      ((tree : TreeFacts) (options : Options) (old new : Log) (status : Status) (is_over : Bool) → root_file options ≡ root → turn tree options old new status is_over → other tree options old new status is_over) →
      (options : ℕ → Options → Type 0) (count : ℕ) (old new : Log) (status : Status) → AreRootedAt root options →
      RunsAll turn files root options count old new status → RunsAll other others root options count old new status
  all_over over options count old new status rooted (many.stops s) = many.stops (stops_over old new status s)
  all_over over options count old new status rooted (many.turns tree mid x said ts) =
      many.turns tree mid (accepted_over root files others alike tree x) said (turns_over (over tree) options rooted 0 count mid new status ts)

  pub runs_each_over : (options : ℕ → Options → Type 0) (count : ℕ) (old new : Log) (status : Status) → AreRootedAt root options →
      RunsEach files root options count old new status → RunsEach others root options count old new status
  runs_each_over = all_over turn_over
