-- A run that lists the prompts that no input makes visible: what its outcome is, and how it ends.
use Rattle.std.proofs.Common.{◌≡◌, ◌∙◌, All, ap, inl, inr, sym, ℕ, Bool, true, false, List, [], ◌∷◌, ◌++◌, refl, Option, None, Some, Result, Ok, Err}
use Rattle.std.proofs.lemmas.List.Elements.{All-nil, All-push}
use Rattle.std.proofs.lemmas.Grind.{flat_map-append}
use Rattle.std.proofs.lemmas.List.{append-nil, map-append}
use Rattle.std.specs.declared.{alloc.{AllocError.AllocError, Global.Global}, vec.Vec.Vec}
use Rattle.std.specs.Prelude.{IfOk, if◌then◌else◌}
use Rattle.kc_language.specs.Expansion.{Files}
use Rattle.kc_language.specs.Symbols.{TreeFacts}
use Rattle.kc_language.specs.declared.expressions.SymId.{SymId}
use Rattle.kc_read.specs.RefusalView.{refusal_view}
use Rattle.kc_read.specs.declared.refusal.Refusal.{Refusal}
use Rattle.kc_io.specs.Delivery.{NamedText}
use Rattle.kc_io.specs.Log.{Log}
use Rattle.kc_load.specs.Loading.{ExpandsAlike}
use Rattle.kc_io.proofs.LogLemmas.{leads_nothing}
use Rattle.kc_possible.specs.Possible.{AreSomeOf, IsDead, IsOff}
use Rattle.kc_outcome.specs.Outcome.{IsAcceptedTree, Options, Outcome, lines_text, refusal_line, refused_if, refused_outcome, root_file}
use Rattle.kc_outcome.specs.declared.outcome.Status.{Status}
use Rattle.kc_outcome.specs.declared.outcome.Status.TheVariants.{Done}
use Rattle.kc_conf.specs.Accepted.{IsRefusalOf}
use Rattle.kc_conf.specs.Dead.{DeadSymbol, IsDeadOutcome, ListsDead, dead_line, dead_text, finishes, listed, no_memory, refused_tree as dead_refused, texts_for}
use Rattle.kc_conf.specs.DeadParts.{IsDeadText, IsListOf, LeavesList, texts_unless}
use Rattle.kc_conf.specs.Endings.{Finishes, RefusesTree, line_if, status_if, texts_or}
use Rattle.kc_conf.specs.Faults.{diagnostics_of}
use Rattle.kc_conf.specs.LawSteps.{AnswerExists}
use Rattle.kc_conf.specs.declared.stop.Stop.{Stop}
use Rattle.kc_conf.specs.declared.stop.Stop.TheVariants.{OutOfMemory}
use Rattle.kc_conf.proofs.EndingLemmas.{Ends-refused, some-refusal}
use Rattle.kc_conf.proofs.PartLemmas.{AreLines-nothing}
use Rattle.kc_conf.proofs.FolderLemmas.{accepted_over, refused_over}

-- ---- outcomes

-- none are some of any symbols
none-of : (all : List SymId) → AreSomeOf [] all
none-of [] = refl
none-of (s ∷ all) = inl (none-of all)

-- an accepted tree has one
of-accepted : (files : Files) (options : Options) (tree : TreeFacts) → IsAcceptedTree files (root_file options) tree → (outcome : Outcome) × IsDeadOutcome files options outcome
of-accepted files options tree accepted = (_, listed tree [] accepted (All-nil (IsDead tree)) (none-of tree.defined) (All-nil (λ d. All (IsOff tree) d.reasons)) refl)

-- so any files have one
of-files : AnswerExists → (files : Files) (options : Options) → (outcome : Outcome) × IsDeadOutcome files options outcome
of-files answer files options = elim (answer files (root_file options)) [
  | inl a ↦ of-accepted files options a.0 a.1
  | inr b ↦ (refused_outcome (refusal_line b.0), dead_refused b.0 b.1 refl)
]

-- ---- the list

pub list_begins : (tree : TreeFacts) → IsListOf tree [] []
list_begins tree = record { dead = []; listed = refl; off = All-nil (λ d. All (IsOff tree) d.reasons); text_is = refl }

pub list_grows : (tree : TreeFacts) (symbols : List SymId) (text : List ℕ) (d : DeadSymbol) → All (IsOff tree) d.reasons → IsListOf tree symbols text →
    IsListOf tree (symbols ++ d.symbol ∷ []) (text ++ dead_line tree d)
list_grows tree symbols text d off list = record {
  dead = list.dead ++ d ∷ [];
  listed = map-append (λ d. d.symbol) list.dead (d ∷ []) ∙ ap (λ ss. ss ++ d.symbol ∷ []) list.listed;
  off = All-push (λ d. All (IsOff tree) d.reasons) list.dead d list.off off;
  text_is = ap (λ t. t ++ dead_line tree d) list.text_is ∙ sym (flat_map-append (dead_line tree) list.dead (d ∷ []) ∙ ap (λ t. dead_text tree list.dead ++ t) (append-nil (dead_line tree d)));
}

-- dead prompts of the tree are listed, if there is memory
pub dead_listed : (tree : TreeFacts) (symbols : List SymId) (result : Result (Vec ℕ Global) AllocError) → All (IsDead tree) symbols → AreSomeOf symbols tree.defined →
    IfOk result (λ text. IsListOf tree symbols text.items) → IfOk result (λ text. IsDeadText tree text.items)
dead_listed tree symbols (Ok text) dead in_order list = record { symbols = symbols; dead = dead; in_order = in_order; list = list }
dead_listed tree symbols (Err e) dead in_order list = list

-- ---- how it ends

module _ (files : Files) (options : Options) (file : List ℕ) where
  -- there was no memory
  leaves-memory : {outcome : Outcome} → IsDeadOutcome files options outcome → (old : Log) → LeavesList files options file (Err OutOfMemory) old old
  leaves-memory {outcome = outcome} is old = record { outcome = outcome; is_outcome = is; ends = no_memory [] refl AreLines-nothing (outcome.warned, refl) (leads_nothing old) }

  pub LeavesList-memory : (tree : TreeFacts) → IsAcceptedTree files (root_file options) tree → (old : Log) → LeavesList files options file (Err OutOfMemory) old old
  LeavesList-memory tree accepted old = leaves-memory (of-accepted files options tree accepted).1 old

  -- a tree is refused, or there was no memory for it
  pub LeavesList-refused : AnswerExists → (r : Refusal) (result : Result Status Stop) (old new : Log) → IsRefusalOf files (root_file options) r → RefusesTree r result old new → LeavesList files options file result old new
  LeavesList-refused answer r result old new why (inl (is, same)) = rw (is, same) (leaves-memory (of-files answer files options).1 old)
  LeavesList-refused answer r result old new why (inr (known, refuses)) =
      let line = refusal_line (refusal_view r) in
      record {
        outcome = refused_outcome line;
        is_outcome = dead_refused (refusal_view r) (why known) refl;
        ends = finishes (record {
          front = [];
          rest = line;
          mid = old;
          whole = refl;
          lines = AreLines-nothing;
          log = leads_nothing old;
          ends = Ends-refused options line result old new (some-refusal (refusal_view r)) refuses;
        });
      }

  -- the diagnostics and the text for the file, unless the warnings are refused
  finishes-strictly : (text warned : List ℕ) (refuses : Bool) (result : Result Status Stop) (old new : Log) →
      (let given : Option (List NamedText) = if refuses then None else Some (record { name = file; bytes = text } ∷ []) in
      Finishes options (warned ++ line_if options given) (texts_or given) (status_if given) result old new) →
      (let outcome = refused_if options refuses (record { texts = text ∷ []; warned = warned; refusal = []; status = Done }) in
      Finishes options (diagnostics_of outcome) (texts_for file outcome) outcome.status result old new)
  finishes-strictly text warned true result old new h = h
  finishes-strictly text warned false result old new h = h

  -- a tree is listed
  pub LeavesList-listed : (tree : TreeFacts) (text warned : List ℕ) (given : Option (List NamedText)) (result : Result Status Stop) (old new : Log) → IsAcceptedTree files (root_file options) tree →
      IsDeadText tree text → warned ≡ lines_text tree.warnings → given ≡ texts_unless options file text warned →
      Finishes options (warned ++ line_if options given) (texts_or given) (status_if given) result old new → LeavesList files options file result old new
  LeavesList-listed tree text warned given result old new accepted is warned_is given_is h = record {
    outcome = _;
    is_outcome = listed tree is.list.dead accepted (rw is.list.listed is.dead) (rw is.list.listed is.in_order) is.list.off refl;
    ends = finishes (finishes-strictly (dead_text tree is.list.dead) (lines_text tree.warnings) _ result old new (rw (given_is, warned_is, is.list.text_is) at h));
  }

-- ---- a folder's files

-- from these files to others that expand alike
module _ (options : Options) (files others : Files) (alike : ExpandsAlike (root_file options) files others) where
  outcome_over : (outcome : Outcome) → IsDeadOutcome files options outcome → IsDeadOutcome others options outcome
  outcome_over outcome (dead_refused r is e) = dead_refused r (refused_over (root_file options) files others alike r is) e
  outcome_over outcome (listed tree dead accepted are in_order off e) =
      listed tree dead (accepted_over (root_file options) files others alike tree accepted) are in_order off e

  -- a run over these files is one over the others
  pub lists_over : (file : List ℕ) (old new : Log) (status : Status) → ListsDead files options file old new status → ListsDead others options file old new status
  lists_over file old new status r = record {
    outcome = r.outcome;
    is_outcome = outcome_over r.outcome r.is_outcome;
    result = r.result;
    mid = r.mid;
    ends = r.ends;
    is_over = r.is_over;
    answers = r.answers;
  }
