-- What each of many configurations leaves, whatever the others do.
use Rattle.std.proofs.Common.{◌≡◌, ◌≢◌, ℕ, suc, ◌+◌, ◌<◌, ◌≤◌, Bool, true, false, not, ◌||◌, cond, List, [], ◌∷◌, map, refl, sym, ap, subst, ◌∙◌, Option, Some, Ok, Err, bytes_eq, arith, unwrap_or, is_none}
use Rattle.std.specs.Prelude.{◌&&◌, All}
use Rattle.std.specs.List.{list_any}
use Rattle.std.specs.Option.{option_map_or}
use Rattle.std.proofs.lemmas.List.Elements.{All-cons, All-head, All-nil, All-tail}
use Rattle.std.proofs.lemmas.Slice.Eq.{bytes_eq-Decides}
use Rattle.kc_io.specs.Delivery.{last_of, NamedText, stale}
use Rattle.kc_io.specs.Log.{Event, Journal, Log, Leads, failed, held, is_held, reported}
use Rattle.kc_io.specs.declared.device.Action.TheVariants.{Report}
use Rattle.kc_io.proofs.LogLemmas.{keeps_reported}
use Rattle.kc_language.specs.Expansion.{Files}
use Rattle.kc_language.specs.Symbols.{TreeFacts}
use Rattle.kc_outcome.specs.Outcome.{Options, input_files, Outcome, lines_text}
use Rattle.kc_io.specs.Delivery.{stale_texts, status_with, texts_of}
use Rattle.kc_io.specs.Inputs.{AreInputs, InputFile, IsAsTold}
use Rattle.kc_conf.specs.PartsOfFaults.{stale_by}
use Rattle.kc_conf.specs.Many.{EndsTurn, RunsTurn, StopsAtTree, TakeTurns, TakesTurn, AreSeparate, EachLeavesItsPart, HoldAlike, RunsAmong, is_among, output_files, written_files}
use Rattle.kc_conf.specs.PartsOfMany.{written_by}
use Rattle.kc_conf.specs.Faults.{Completes}
use Rattle.kc_conf.specs.Many as many
use Rattle.kc_outcome.specs.declared.outcome.Delivery.{Delivery}
use Rattle.kc_outcome.specs.declared.outcome.Delivery.TheVariants as delivered
use Rattle.kc_outcome.specs.declared.outcome.Status.{Status}
use Rattle.kc_conf.proofs.SeparateLemmas.{broken_held, completes_held, completes_last, kept_held, texts_lack}

or-first : (a b : Bool) → a ≡ true → (a || b) ≡ true
or-first true b e = refl
or-first false b e = absurd (let clash : false ≡ true = e in cc)

or-second : (a b : Bool) → b ≡ true → (a || b) ≡ true
or-second true b e = refl
or-second false b e = e

-- what is written is an output
pub written_output : (name : List ℕ) (manner : Delivery) (names : List (List ℕ)) → is_among name (written_by manner names) ≡ true → is_among name names ≡ true
written_output name delivered.Write names e = e
written_output name delivered.Replace names e = e
written_output name delivered.Check names e = absurd (let clash : false ≡ true = e in cc)

-- ---- what is known of the logs

some_same : (a b : Journal) → (let one : Log = Some a in one ≡ Some b) → a ≡ b
some_same a b e = cc

-- events over a log that is known in the end
known_leads : (events : List Event) (text : List ℕ) (old new : Log) (after : Journal) → Leads events text old new → new ≡ Some after → (before : Journal) × (old ≡ Some before)
known_leads events text old new after leads e = let o = leads.told after e in (o.0, o.1)

-- a relation of two known logs
of_known : (R : Log → Log → Type 0) (old new : Log) (before after : Journal) → old ≡ Some before → new ≡ Some after → R old new → R (Some before) (Some after)
of_known R old new before after is_old is_new r = subst (λ (l : Log). R l (Some after)) is_old (subst (λ (l : Log). R old l) is_new r)

-- and back
of_logs : (R : Log → Log → Type 0) (old new : Log) (before after : Journal) → old ≡ Some before → new ≡ Some after → R (Some before) (Some after) → R old new
of_logs R old new before after is_old is_new r =
    subst (λ (l : Log). R l new) (sym is_old) (subst (λ (l : Log). R (Some before) l) (sym is_new) r)

-- ---- what was there when a turn came, and before all

-- the files that the options name hold the same in both
abbrev AreAlike : Options → Journal → Journal → Type 0
AreAlike options earlier later = (name : List ℕ) → (is_among name (input_files options) || is_among name (output_files options)) ≡ true → held later name ≡ held earlier name

told_alike : (options : Options) (earlier later : Journal) → AreAlike options earlier later → HoldAlike options (Some earlier) (Some later)
told_alike options earlier later same name named a is_a b is_b =
    ap (λ (j : Journal). held j name) (sym (some_same later b is_b)) ∙ same name named ∙ ap (λ (j : Journal). held j name) (some_same earlier a is_a)

module _ (one other : Journal) where
  told-alike : (may : Bool) (file : InputFile) → held other file.name ≡ held one file.name → IsAsTold (Some other) may file → IsAsTold (Some one) may file
  told-alike may file same is = record {
    missing = is.missing;
    told = λ journal e.
        let here = is.told other refl in
        let known : one ≡ journal = some_same one journal e in
        let at : held other file.name ≡ held journal file.name = same ∙ ap (λ (j : Journal). held j file.name) known in
        (here.0 ∙ ap (λ (found : Option (List ℕ)). unwrap_or found []) at, here.1 ∙ ap (λ (found : Option (List ℕ)). may && is_none found) at);
  }

  abbrev names : List InputFile → List (List ℕ)
  names files = map (λ (file : InputFile). file.name) files

  own_name : (n : List ℕ) (more : List (List ℕ)) → is_among n (n ∷ more) ≡ true
  own_name n more = or-first (bytes_eq n n) (is_among n more) ((bytes_eq-Decides n n).1 refl)

  all-alike : (may : Bool) (files : List InputFile) → ((name : List ℕ) → is_among name (names files) ≡ true → held other name ≡ held one name) → All (IsAsTold (Some other) may) files → All (IsAsTold (Some one) may) files
  all-alike may [] same are = All-nil (IsAsTold (Some one) may)
  all-alike may (file ∷ files) same are =
      All-cons (IsAsTold (Some one) may) file files
      (told-alike may file (same file.name (own_name file.name (names files))) (All-head (IsAsTold (Some other) may) file files are))
      (all-alike may files (λ name is. same name (or-second (bytes_eq name file.name) (is_among name (names files)) is)) (All-tail (IsAsTold (Some other) may) file files are))

  pub inputs-alike : (options : Options) (inputs : List InputFile) → ((name : List ℕ) → is_among name (input_files options) ≡ true → held other name ≡ held one name) →
      AreInputs (Some other) options inputs → AreInputs (Some one) options inputs
  inputs-alike options [] same are = are
  inputs-alike options (config ∷ fragments) same are =
      let here : (name : List ℕ) → is_among name (names (config ∷ fragments)) ≡ true → held other name ≡ held one name = λ name is. same name (ap (is_among name) (sym are.0) ∙ is) in (
        are.0,
        told-alike (not options.must_exist) config (here config.name (own_name config.name (names fragments))) are.1,
        all-alike false fragments (λ name is. here name (or-second (bytes_eq name config.name) (is_among name (names fragments)) is)) are.2,
      )

  -- the texts that their files do not hold
  stale-alike : (texts : List NamedText) → ((name : List ℕ) → list_any (λ text. bytes_eq name text.name) texts ≡ true → held other name ≡ held one name) → stale texts other ≡ stale texts one
  stale-alike [] same = refl
  stale-alike (text ∷ texts) same =
      let n = text.name in
      let here : held other n ≡ held one n = same n (or-first (bytes_eq n n) (list_any (λ t. bytes_eq n t.name) texts) ((bytes_eq-Decides n n).1 refl)) in
      let rest : stale texts other ≡ stale texts one = stale-alike texts (λ name is. same name (or-second (bytes_eq name n) (list_any (λ t. bytes_eq name t.name) texts) is)) in
      let found : is_held other n text.bytes ≡ is_held one n text.bytes = ap (λ (h : Option (List ℕ)). option_map_or (λ there. bytes_eq there text.bytes) h false) here in
      ap (λ (b : Bool). cond (not b) (text ∷ stale texts other) (stale texts other)) found
      ∙ ap (λ (l : List NamedText). cond (not (is_held one n text.bytes)) (text ∷ l) l) rest

  stale_by-alike : (manner : Delivery) (texts : List NamedText) → ((name : List ℕ) → list_any (λ text. bytes_eq name text.name) texts ≡ true → held other name ≡ held one name) →
      stale_by manner texts other ≡ stale_by manner texts one
  stale_by-alike delivered.Write texts same = refl
  stale_by-alike delivered.Replace texts same = refl
  stale_by-alike delivered.Check texts same = stale-alike texts same

  -- a text of an outcome is one for an output
  text_output : (options : Options) (part : Outcome) (name : List ℕ) → list_any (λ text. bytes_eq name text.name) (texts_of options part) ≡ true → is_among name (output_files options) ≡ true
  text_output options part name has = by (is_among name (output_files options)) refl
    where
      by : (b : Bool) → is_among name (output_files options) ≡ b → b ≡ true
      by true e = refl
      by false e = absurd (let clash : true ≡ false = sym has ∙ texts_lack name options part e in cc)

  pub stale_texts-alike : (options : Options) (part : Outcome) → ((name : List ℕ) → is_among name (output_files options) ≡ true → held other name ≡ held one name) →
      stale_texts options (texts_of options part) other ≡ stale_texts options (texts_of options part) one
  stale_texts-alike options part same = stale_by-alike options.delivery (texts_of options part) (λ name has. same name (text_output options part name has))

-- ---- one turn

module _ (files : Files) (tree : TreeFacts) where
  turn_ends : (options : Options) (inputs : List InputFile) (part : Outcome) (name : List ℕ) (old new : Journal) (status : Status) (is_over : Bool) →
      is_among name (written_files options) ≡ false → EndsTurn files options inputs part (Some old) (Some new) status is_over → held new name ≡ held old name
  turn_ends options inputs part name old new status is_over none (many.whole c goes_on) = completes_held name files options inputs part none old new status c
  turn_ends options inputs part name old new status is_over none (many.broken b ends) = broken_held name files options inputs part none _ old new status b

  -- the log before a turn, where the log after it is known
  ends_known : (options : Options) (inputs : List InputFile) (part : Outcome) (old new : Log) (status : Status) (is_over : Bool) (after : Journal) → EndsTurn files options inputs part old new status is_over →
      new ≡ Some after → (before : Journal) × (old ≡ Some before)
  ends_known options inputs part old new status is_over after (many.whole c goes_on) e = known_leads _ _ old new after c.log e
  ends_known options inputs part old new status is_over after (many.broken b ends) e = known_leads _ _ old new after b.log e

  module _ (are_options : Options → Type 0) where
    takes_known : (old new : Log) (status : Status) (is_over : Bool) (after : Journal) → TakesTurn (RunsTurn files tree) are_options old new status is_over → new ≡ Some after → (before : Journal) × (old ≡ Some before)
    takes_known old new status is_over after (many.runs o are r) e = ends_known o r.inputs r.part old new status is_over after r.ends e
    takes_known old new status is_over after (many.no_options (report, leads) is over) e = known_leads _ _ old new after leads e

    -- a turn changes no file that it does not write
    takes_keeps : (name : List ℕ) (old new : Journal) (status : Status) (is_over : Bool) → ((o : Options) → are_options o → is_among name (written_files o) ≡ false) →
        TakesTurn (RunsTurn files tree) are_options (Some old) (Some new) status is_over → held new name ≡ held old name
    takes_keeps name old new status is_over none (many.runs o are r) = turn_ends o r.inputs r.part name old new status is_over (none o are) r.ends
    takes_keeps name old new status is_over none (many.no_options (report, leads) is over) = kept_held name (reported report) _ old new leads (keeps_reported report)

    module _ (before last : Journal) where
      whole_among : (o : Options) (inputs : List InputFile) (part : Outcome) (old new : Journal) (status : Status) → AreAlike o before old → AreAlike o new last →
          Completes files o inputs part (Some old) (Some new) status →
          ((name : List ℕ) → is_among name (written_files o) ≡ true → held last name ≡ last_of name (texts_of o part) (held before name))
          × (status ≡ status_with (stale_texts o (texts_of o part) before) part.status)
      whole_among o inputs part old new status first after c = (
        λ name written.
            let named : (is_among name (input_files o) || is_among name (output_files o)) ≡ true =
            or-second (is_among name (input_files o)) (is_among name (output_files o)) (written_output name o.delivery (output_files o) written) in
            after name named ∙ completes_last name files o inputs part old new status written c ∙ ap (last_of name (texts_of o part)) (first name named),
        c.status_is ∙ ap (λ (l : List NamedText). status_with l part.status) ((c.of_old old refl).1
            ∙ stale_texts-alike before old o part (λ name output. first name (or-second (is_among name (input_files o)) (is_among name (output_files o)) output))),
      )

      runs_among : (o : Options) (old new : Journal) (status : Status) (is_over : Bool) → AreAlike o before old → AreAlike o new last →
          RunsTurn files tree o (Some old) (Some new) status is_over → RunsAmong files tree before last o (Some old) (Some new) status is_over
      runs_among o old new status is_over first after r = record {
        turn = r;
        alike = (told_alike o before old first, told_alike o new last after);
        own_inputs = inputs-alike before old o r.inputs (λ name input. first name (or-first (is_among name (input_files o)) (is_among name (output_files o)) input)) r.are_inputs;
        if_whole = λ c. whole_among o r.inputs r.part old new status first after c;
      }

      takes_among : (old new : Journal) (status : Status) (is_over : Bool) → ((o : Options) → are_options o → AreAlike o before old) → ((o : Options) → are_options o → AreAlike o new last) →
          TakesTurn (RunsTurn files tree) are_options (Some old) (Some new) status is_over → TakesTurn (RunsAmong files tree before last) are_options (Some old) (Some new) status is_over
      takes_among old new status is_over first after (many.runs o are r) = many.runs o are (runs_among o old new status is_over (first o are) (after o are) r)
      takes_among old new status is_over first after (many.no_options says is over) = many.no_options says is over

-- ---- all turns

module _ (files : Files) (tree : TreeFacts) (options : ℕ → Options → Type 0) where
  -- none of so many configurations, from one number on, writes the file
  abbrev NoneFrom : ℕ → ℕ → List ℕ → Type 0
  NoneFrom i left name = (k : ℕ) (o : Options) → i ≤ k → k < i + left → options k o → is_among name (written_files o) ≡ false

  -- they change no file that none of them writes
  turns_keep : (i left : ℕ) (start end : Log) (status : Status) → TakeTurns (RunsTurn files tree) options i left start end status → (last : Journal) → end ≡ Some last →
      (first : Journal) × (start ≡ Some first) × ((name : List ℕ) → NoneFrom i left name → held last name ≡ held first name)
  turns_keep _ _ _ _ _ (many.none i log) last e = (last, e, λ name none. refl)
  turns_keep _ _ _ _ _ (many.next i left old mid new status others turn rest) last e =
      let (m, is_mid, later) = turns_keep (suc i) left mid new others rest last e in
      let (o, is_old) = takes_known files tree (options i) old mid status false m turn is_mid in
      let here = of_known (λ l k. TakesTurn (RunsTurn files tree) (options i) l k status false) old mid o m is_old is_mid turn in (
        o,
        is_old,
        λ name none. later name (λ k opts from below are. none k opts (omega (arith, from)) (omega (arith, below)) are)
            ∙ takes_keeps files tree (options i) name o m status false (λ opts are. none i opts (omega arith) (omega arith) are) here,
      )
  turns_keep _ _ _ _ _ (many.last i left old new status turn) last e =
      let (o, is_old) = takes_known files tree (options i) old new status true last turn e in
      let here = of_known (λ l k. TakesTurn (RunsTurn files tree) (options i) l k status true) old new o last is_old e turn in
      (o, is_old, λ name none. takes_keeps files tree (options i) name o last status true (λ opts are. none i opts (omega arith) (omega arith) are) here)

  module _ (count : ℕ) (separate : AreSeparate options count) (before last : Journal) where
    -- what the configurations before this number do not write is as it was
    abbrev IsFresh : ℕ → Journal → Type 0
    IsFresh i old = (name : List ℕ) → ((k : ℕ) (o : Options) → k < i → options k o → is_among name (written_files o) ≡ false) → held old name ≡ held before name

    -- a file that a configuration names is written by no other one
    other_writes : (i k : ℕ) (o other : Options) (name : List ℕ) → i < count → k < count → k ≢ i → options i o → options k other → (is_among name (input_files o) || is_among name (output_files o)) ≡ true →
        is_among name (written_files other) ≡ false
    other_writes i k o other name small small' differs are are' named = by (is_among name (written_files other)) refl
      where
        by : (b : Bool) → is_among name (written_files other) ≡ b → b ≡ false
        by false e = refl
        by true e =
            let apart = separate k i other o name small' small differs are' are e in
            absurd (let clash : false ≡ true = ap (λ (b : Bool). false || b) (sym apart.1) ∙ ap (λ (b : Bool). b || is_among name (output_files o)) (sym apart.0) ∙ named in cc)

    first_of : (i : ℕ) (old : Journal) → i < count → IsFresh i old → (o : Options) → options i o → AreAlike o before old
    first_of i old small fresh o are name named = fresh name (λ k other below are'. other_writes i k o other name small (omega (arith, below, small)) (λ e. absurd (let b : k < i = below in let s : k ≡ i = e in omega arith)) are are' named)

    module _ (new : Journal) (i left : ℕ) (within : suc i + left ≡ count) (later : (name : List ℕ) → NoneFrom (suc i) left name → held last name ≡ held new name) where
      last_of_all : (o : Options) → options i o → AreAlike o new last
      last_of_all o are name named = later name (λ k other from below are'. other_writes i k o other name (omega (arith, within)) (omega (arith, below, within)) (λ e. absurd (let f : suc i ≤ k = from in let s : k ≡ i = e in omega arith)) are are' named)

    -- one more turn
    more_fresh : (i : ℕ) (old new : Journal) → IsFresh i old → ((name : List ℕ) → ((o : Options) → options i o → is_among name (written_files o) ≡ false) → held new name ≡ held old name) → IsFresh (suc i) new
    more_fresh i old new fresh keeps name none = keeps name (λ o are. none i o (omega arith) are) ∙ fresh name (λ k o below are. none k o (omega (arith, below)) are)

    turns_among : (i left : ℕ) (start end : Log) (status : Status) → TakeTurns (RunsTurn files tree) options i left start end status → (old : Journal) → start ≡ Some old → end ≡ Some last → i + left ≡ count → IsFresh i old →
        TakeTurns (RunsAmong files tree before last) options i left start end status
    turns_among _ _ _ _ _ (many.none i log) old is_start is_end whole fresh = many.none i log
    turns_among _ _ _ _ _ (many.next i left start mid end status others turn rest) old is_start is_end whole fresh =
        let (m, is_mid, later) = turns_keep (suc i) left mid end others rest last is_end in
        let here = of_known (λ l k. TakesTurn (RunsTurn files tree) (options i) l k status false) start mid old m is_start is_mid turn in
        many.next i left start mid end status others
        (of_logs (λ l k. TakesTurn (RunsAmong files tree before last) (options i) l k status false) start mid old m is_start is_mid
        (takes_among files tree (options i) before last old m status false (first_of i old (omega (arith, whole)) fresh) (last_of_all m i left (omega (arith, whole)) later) here))
        (turns_among (suc i) left mid end others rest m is_mid is_end (omega (arith, whole))
        (more_fresh i old m fresh (λ name none. takes_keeps files tree (options i) name old m status false none here)))
    turns_among _ _ _ _ _ (many.last i left start end status turn) old is_start is_end whole fresh =
        let here = of_known (λ l k. TakesTurn (RunsTurn files tree) (options i) l k status true) start end old last is_start is_end turn in
        many.last i left start end status
        (of_logs (λ l k. TakesTurn (RunsAmong files tree before last) (options i) l k status true) start end old last is_start is_end
        (takes_among files tree (options i) before last old last status true (first_of i old (omega (arith, whole)) fresh) (λ o are name named. refl) here))

-- ---- the whole run

stops_keep : (files : Files) (root : List ℕ) (old new : Journal) (status : Status) → StopsAtTree files root (Some old) (Some new) status → (name : List ℕ) → held new name ≡ held old name
stops_keep files root old new status (many.refused_tree r is leads e) name = kept_held name [] _ old new leads refl
stops_keep files root old new status (many.unsaid_refusal r is (fault, leads) e) name = kept_held name (failed Report [] fault) _ old new leads refl
stops_keep files root old new status (many.unsaid_warnings tree is some (fault, leads) e) name = kept_held name (failed Report [] fault) _ old new leads refl
stops_keep files root old new status (many.no_memory (Ok u, leads) e) name = kept_held name [] _ old new leads refl
stops_keep files root old new status (many.no_memory (Err fault, leads) e) name = kept_held name (failed Report [] fault) _ old new leads refl

pub each_leaves_its_part_law : (options : ℕ → Options → Type 0) (count : ℕ) → EachLeavesItsPart options count
each_leaves_its_part_law options count files root before after status separate (many.stops s) = many.stops s (stops_keep files root before after status s)
each_leaves_its_part_law options count files root before after status separate (many.turns tree mid accepted said ts) =
    let (m, is_mid, later) = turns_keep files tree options 0 count mid (Some after) status ts after refl in
    let warned = subst (λ (l : Log). Leads [] (lines_text tree.warnings) (Some before) l) is_mid said in
    let quiet : (name : List ℕ) → held m name ≡ held before name = λ name. kept_held name [] (lines_text tree.warnings) before m warned refl in
    many.turns tree mid accepted said
    (turns_among files tree options count separate before after 0 count mid (Some after) status ts m is_mid refl (omega arith) (λ name none. quiet name))
    (λ name none. later name (λ k o from below are. none k o (omega (arith, below)) are) ∙ quiet name)
