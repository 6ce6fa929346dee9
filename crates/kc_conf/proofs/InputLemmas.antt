-- The input files, one after another.
use Rattle.std.proofs.Common.{◌≡◌, ℕ, zero, suc, ◌+◌, ◌<◌, ◌≤◌, Bool, true, false, List, [], ◌∷◌, ◌++◌, length, map, take, drop, get_or, refl, sym, ap, subst, ◌∙◌, append_assoc, append-nil, length-append, arith, Some, None, Vec, Global}
use Rattle.std.specs.Prelude.{not, slice_get, string_bytes}
use Rattle.std.specs.List.{All}
use Rattle.std.proofs.Math.Seq.{get_or-append_seam, take-append_seam}
use Rattle.std.proofs.lemmas.Grind.{flat_map-append}
use Rattle.std.proofs.lemmas.List.{drop_more, get_or-map, get_or_append_left, length-map, length-replicate, map-append, take-append-drop, take_all, take_more}
use Rattle.std.proofs.lemmas.List.Elements.{All-nil, All-push, All-weaker}
use Rattle.std.proofs.lemmas.Option.{slice_get-get_or}
use Rattle.kc_entries.proofs.ElementLemmas.{All-at}
use Rattle.kc_language.specs.Symbols.{TreeFacts}
use Rattle.kc_language.specs.ConfigFile.{ArePlacesOf, Line, ReadResult, Stream, StreamLocation, UserInput, lines_from, lines_of, reading}
use Rattle.kc_language.specs.Texts.{HasShortLines}
use Rattle.kc_outcome.specs.Outcome.{Options, fresh_input, input_files, lead, input_names, streams}
use Rattle.kc_io.specs.Log.{Event, Log, Leads}
use Rattle.kc_io.specs.Inputs.{AreInputs, AreThere, HasTurn, InputFile, IsAsTold, IsThere, ReadsTo, all, begun, bytes_of, line, reads, reads_one, still_told}
use Rattle.kc_io.proofs.LogLemmas.{leads_nothing}
use Rattle.kc_input.specs.Feeding.{stream_start}
use Rattle.kc_input.specs.ReaderState.{ReaderState}
use Rattle.kc_input.specs.Reading.{with_warnings}
use Rattle.kc_options.specs.Asked.{may_at}
use Rattle.kc_options.specs.PartsOfOutcome.{holds_warnings}
use Rattle.kc_conf.specs.Faults.{AreLines, event_of, warned_by}
use Rattle.kc_conf.specs.PartsOfFaults.{ended_lines}
use Rattle.kc_conf.specs.Reads.{BreaksInputs, ReadsInputs, StopsInputs, ended_with, in_input, in_diagnostics, no_memory}
use Rattle.kc_conf.specs.ReadSteps.{AreAsTold, BreaksFile, ReadsFile, ReadsSoFar, Stand, StopsFile, StopsWarnings, Warns, held_back, in_file, in_lines, said_now}
use Rattle.kc_conf.specs.declared.stop.Stop.{Stop}
use Rattle.kc_conf.specs.declared.stop.Stop.TheVariants.{OutOfMemory, Failed}
use Rattle.kc_conf.proofs.GivenLemmas.{AreAsTold-recalled, IsAsTold-recalled, IsThere-recalled, are-inputs, keeps-reads, others-told}
use Rattle.kc_conf.proofs.PartLemmas.{AreLines-nothing, long-stream, short-stream}
use Rattle.kc_conf.proofs.StepLemmas.{said-both, stops-behind-warns, warns-as, warns-done, warns-then, with_warnings-both}
use Rattle.kc_conf.proofs.TellingLemmas.{Leads-as, Leads-then, Recalls-first, Recalls-later}

-- ---- which there are

-- behind the first of the files none may be missing
never_may : (i : ℕ) → may_at false i ≡ false
never_may zero = refl
never_may (suc i) = refl

are-told-append : (log : Log) (may : Bool) (files more : List InputFile) → AreAsTold log may files → AreAsTold log (may_at may (length files)) more → AreAsTold log may (files ++ more)
are-told-append log may [] more are others = others
are-told-append log may (file ∷ files) more are others =
    (are.0, are-told-append log false files more are.1 (subst (λ b. AreAsTold log b more) (sym (never_may (length files))) others))

-- Behind a file in which a line is too long, the turn of none comes.
there-to : (told : Log) (done later : List InputFile) (file : InputFile) → All (IsThere told) done → IsThere told file → (HasShortLines file.bytes → ⊥) →
    (i : ℕ) (other : InputFile) → slice_get (done ++ file ∷ later) i ≡ Some other → HasTurn (done ++ file ∷ later) i → IsThere told other
there-to told [] later file each there long zero other is turn =
    let same : file ≡ other = (let both : Some file ≡ Some other = is in cc) in subst (λ (f : InputFile). IsThere told f) same there
there-to told [] later file each there long (suc i) other is turn = absurd (long (turn 0 (omega arith)))
there-to told (first ∷ done) later file each there long zero other is turn =
    let same : first ≡ other = (let both : Some first ≡ Some other = is in cc) in subst (λ (f : InputFile). IsThere told f) same (each 0 first (omega arith))
there-to told (first ∷ done) later file each there long (suc i) other is turn =
    there-to told done later file (λ j d within. each (suc j) d (omega (arith, within))) there long i other is (λ j below. turn (suc j) (omega (arith, below)))

-- ---- what reading does

-- a stream behind those before it
streams-more : (names done left later : List (List ℕ)) (name bytes : List ℕ) → drop (length done) names ≡ name ∷ later →
    streams names (done ++ bytes ∷ left) ≡ streams names done ++ record { name = name; bytes = bytes } ∷ streams later left
streams-more [] [] left later name bytes at = absurd cc
streams-more (n ∷ names) [] left later name bytes at = ap (λ ns. streams ns (bytes ∷ left)) at
streams-more [] (d ∷ done) left later name bytes at = absurd cc
streams-more (n ∷ names) (d ∷ done) left later name bytes at =
    ap (λ ls. record { name = n; bytes = d } ∷ ls) (streams-more names done left later name bytes at)

streams-none : (names : List (List ℕ)) → streams names [] ≡ []
streams-none [] = refl
streams-none (name ∷ names) = refl

-- what was given before the first
pub places-fresh : (options : Options) (tree : TreeFacts) (input : UserInput) → input ≡ fresh_input options tree → ArePlacesOf tree input.places
places-fresh options tree input fresh =
    subst (λ (i : UserInput). ArePlacesOf tree i.places) (sym fresh)
    (record { symbols = length-replicate (length tree.symbols) None; choices = length-replicate (length tree.choices) None })

-- one name for each file
pub names-count : (options : Options) → length (input_names options) ≡ length (input_files options)
names-count options =
    ap suc (length-map options.fragments.items (λ name. lead options ++ string_bytes name) ∙ sym (length-map options.fragments.items string_bytes))

-- warnings that broke off: there was no memory, or the diagnostics failed
stops-inputs : (told : Log) (options : Options) (tree : TreeFacts) (inputs : List InputFile) (holds : Bool) (stop : Stop) (warned : List ℕ) (done left : List Event) (front : List ℕ) → done ++ left ≡ reads inputs →
    StopsWarnings holds stop warned front → StopsInputs told options tree inputs warned stop done front
stops-inputs told options tree inputs true OutOfMemory warned done left front split none =
    no_memory done left front split (subst AreLines (sym none) AreLines-nothing) (warned, ap (λ f. f ++ warned) (sym none))
stops-inputs told options tree inputs true (Failed f) warned done left front split never = absurd never
stops-inputs told options tree inputs false OutOfMemory warned done left front split (lines, begins) = no_memory done left front split lines begins
stops-inputs told options tree inputs false (Failed f) warned done left front split (report, lines, goes) = in_diagnostics f done left front report.0 report.1 split lines goes

-- nothing waits after the files that was not warned of by them
waits-all : {warned : List ℕ} {events : List Event} {old new : Stand} → old.waiting.text.items ≡ [] → Warns warned events old new → new.waiting.text.items ≡ held_back new.waiting.holds warned
waits-all {warned = warned} {old = old} none warns = warns.waits ∙ ap (λ t. t ++ held_back old.waiting.holds warned) none ∙ ap (λ h. held_back h warned) (sym warns.holds)

module _ (options : Options) (tree : TreeFacts) where
  -- no file yet
  pub so_far-nothing : (stand : Stand) → ReadsSoFar options tree 0 stand stand
  so_far-nothing stand = record {
    files = [];
    counted = refl;
    named = refl;
    told = tt;
    there = All-nil (IsThere (still_told stand.log stand.log));
    short = All-nil HasShortLines;
    warned = [];
    goes = λ more. ap (λ ls. reading tree options.prefix stand.input (lines_of ls ++ more)) (streams-none (input_names options));
    warns = warns-done stand stand refl (leads_nothing stand.log);
  }

  -- all were read
  pub reads-all : {count : ℕ} {old new : Stand} → length (input_files options) ≤ count → old.waiting.text.items ≡ [] →
      ((input : UserInput) → reading tree options.prefix input [] ≡ ended_with input [] None) → ReadsSoFar options tree count old new →
      ReadsInputs options tree None old.input new.input new.waiting old.log new.log
  reads-all {count = count} {old = old} {new = new} end none nothing so_far = record {
    inputs = so_far.files;
    are_inputs = are-inputs (still_told old.log new.log) options so_far.files (so_far.named ∙ take_all count (input_files options) end) so_far.told;
    events = reads so_far.files;
    reads_to = all;
    there = λ i file is turn. All-at (IsThere (still_told old.log new.log)) so_far.files i file so_far.there is;
    warned = so_far.warned;
    reading_is =
        let lines = lines_of (streams (input_names options) (bytes_of so_far.files)) in
        ap (reading tree options.prefix old.input) (sym (append-nil lines)) ∙ so_far.goes [] ∙ ap (with_warnings so_far.warned) (nothing new.input)
        ∙ ap (λ w. ended_with new.input w None) (append-nil so_far.warned);
    log = subst (λ h. Leads (reads so_far.files) (said_now h so_far.warned) old.log new.log) (sym so_far.warns.holds) so_far.warns.log;
    waits = waits-all none so_far.warns;
  }

-- For the files before this one.
module _ {options : Options} {tree : TreeFacts} {count : ℕ} {stream name : List ℕ} {old mid : Stand} (so_far : ReadsSoFar options tree count old mid) (within : count < length (input_files options))
    (stream_is : get_or (input_names options) count [] ≡ stream) (name_is : get_or (input_files options) count [] ≡ name) where
  abbrev reader : ReaderState
  reader = record { tree = tree; prefix = options.prefix; name = stream; position = stream_start; refusal = None }

  abbrev may : Bool
  may = may_at (not options.must_exist) count

  abbrev later_streams : List (List ℕ)
  later_streams = drop (count + 1) (input_names options)

  -- what files before and after this one say
  abbrev lines_of_all : List (List ℕ) → List Line
  lines_of_all texts = lines_of (streams (input_names options) texts)

  at-stream : drop (length (bytes_of so_far.files)) (input_names options) ≡ stream ∷ later_streams
  at-stream =
      ap (λ n. drop n (input_names options)) (length-map so_far.files (λ (f : InputFile). f.bytes) ∙ so_far.counted)
      ∙ drop_more (input_names options) count [] (let e = names-count options in omega (arith, within, e))
      ∙ ap (λ n. n ∷ later_streams) stream_is

  -- the lines of this stream stand behind those before it
  lines-at : (bytes : List ℕ) (left : List (List ℕ)) → lines_of_all (bytes_of so_far.files ++ bytes ∷ left) ≡ lines_of_all (bytes_of so_far.files) ++ (lines_from stream 1 bytes ++ lines_of (streams later_streams left))
  lines-at bytes left =
      ap lines_of (streams-more (input_names options) (bytes_of so_far.files) left later_streams stream bytes at-stream)
      ∙ flat_map-append (λ (s : Stream). lines_from s.name 1 s.bytes) (streams (input_names options) (bytes_of so_far.files)) (record { name = stream; bytes = bytes } ∷ streams later_streams left)

  -- this file, among the input files, with those whose turn did not come; and what reading them means
  record IsPlaced (file : InputFile) (told : Log) : Type 0 where
    later : List InputFile
    are : AreInputs told options (so_far.files ++ file ∷ later)
    before : All (IsThere told) so_far.files
    take-is : take count (so_far.files ++ file ∷ later) ≡ so_far.files
    get : slice_get (so_far.files ++ file ∷ later) count ≡ Some file
    turn : HasTurn (so_far.files ++ file ∷ later) count
    goes : reading tree options.prefix old.input (lines_of_all (bytes_of (so_far.files ++ file ∷ later)))
        ≡ with_warnings so_far.warned (reading tree options.prefix mid.input (lines_from stream 1 file.bytes ++ lines_of (streams later_streams (bytes_of later))))

  module _ {file : InputFile} {end : Log} {events : List Event} {text : List ℕ} (told : IsAsTold (still_told mid.log end) may file) (leads : Leads events text mid.log end) where
    told-with : (more : List InputFile) → AreAsTold (still_told old.log end) false more → AreAsTold (still_told old.log end) (not options.must_exist) (so_far.files ++ file ∷ more)
    told-with more are =
        are-told-append (still_told old.log end) (not options.must_exist) so_far.files (file ∷ more)
        (AreAsTold-recalled (Recalls-later so_far.warns.log leads) (not options.must_exist) so_far.files so_far.told)
        (subst (λ n. AreAsTold (still_told old.log end) (may_at (not options.must_exist) n) (file ∷ more)) (sym so_far.counted)
        (IsAsTold-recalled (Recalls-first (keeps-reads so_far.files) so_far.warns.log leads) may file told, are))

    there-before : All (IsThere (still_told old.log end)) so_far.files
    there-before = All-weaker _ _ (IsThere-recalled (Recalls-later so_far.warns.log leads)) so_far.files so_far.there

    there-this : IsThere (still_told mid.log end) file → IsThere (still_told old.log end) file
    there-this there = IsThere-recalled (Recalls-first (keeps-reads so_far.files) so_far.warns.log leads) file there

    placed : file.name ≡ name → IsPlaced file (still_told old.log end)
    placed named =
        let (later, are, later_names) = others-told (still_told old.log end) (drop (count + 1) (input_files options)) in
        let inputs = so_far.files ++ file ∷ later in
        let all_bytes : bytes_of inputs ≡ bytes_of so_far.files ++ file.bytes ∷ bytes_of later = map-append (λ (f : InputFile). f.bytes) so_far.files (file ∷ later) in
        record {
          later = later;
          are = are-inputs (still_told old.log end) options inputs
              (map-append (λ (f : InputFile). f.name) so_far.files (file ∷ later)
              ∙ ap (λ ns. ns ++ file.name ∷ map (λ (f : InputFile). f.name) later) so_far.named
              ∙ ap (λ ns. take count (input_files options) ++ file.name ∷ ns) later_names
              ∙ ap (λ n. take count (input_files options) ++ n ∷ drop (count + 1) (input_files options)) (named ∙ sym name_is)
              ∙ ap (λ ns. take count (input_files options) ++ ns) (sym (drop_more (input_files options) count [] within))
              ∙ take-append-drop count (input_files options))
              (told-with later are);
          before = there-before;
          take-is = ap (λ n. take n inputs) (sym so_far.counted) ∙ take-append_seam so_far.files (file ∷ later);
          get = slice_get-get_or inputs count file (let c = so_far.counted in let l = length-append so_far.files (file ∷ later) in omega (arith, c, l))
              ∙ ap Some (ap (λ n. get_or inputs n file) (sym so_far.counted) ∙ get_or-append_seam so_far.files file later file);
          turn = λ j below.
              let before : j < length (bytes_of so_far.files) = let c = so_far.counted in let l = length-map so_far.files (λ (f : InputFile). f.bytes) in omega (arith, below, c, l) in
              subst HasShortLines (sym (ap (λ bs. get_or bs j []) all_bytes ∙ get_or_append_left (bytes_of so_far.files) (file.bytes ∷ bytes_of later) [] j before)) (so_far.short j [] before);
          goes = ap (λ bs. reading tree options.prefix old.input (lines_of_all bs)) all_bytes ∙ ap (reading tree options.prefix old.input) (lines-at file.bytes (bytes_of later))
              ∙ so_far.goes (lines_from stream 1 file.bytes ++ lines_of (streams later_streams (bytes_of later)));
        }

  -- this file was read to its end
  pub so_far-file : {new : Stand} → ReadsFile reader name may None mid new → ReadsSoFar options tree (count + 1) old new
  so_far-file {new = new} file =
      let bytes : bytes_of (so_far.files ++ file.file ∷ []) ≡ bytes_of so_far.files ++ file.file.bytes ∷ [] = map-append (λ (f : InputFile). f.bytes) so_far.files (file.file ∷ []) in
      let before = lines_of_all (bytes_of so_far.files) in
      let these = lines_from stream 1 file.file.bytes in
      let lines : lines_of_all (bytes_of (so_far.files ++ file.file ∷ [])) ≡ before ++ these =
      ap lines_of_all bytes ∙ lines-at file.file.bytes [] ∙ ap (λ ls. before ++ (these ++ lines_of ls)) (streams-none later_streams) ∙ ap (λ ls. before ++ ls) (append-nil these) in
      record {
        files = so_far.files ++ file.file ∷ [];
        counted = length-append so_far.files (file.file ∷ []) ∙ ap (λ n. n + 1) so_far.counted;
        named = map-append (λ (f : InputFile). f.name) so_far.files (file.file ∷ [])
            ∙ ap (λ ns. ns ++ file.file.name ∷ []) so_far.named
            ∙ ap (λ n. take count (input_files options) ++ n ∷ []) (file.named ∙ sym name_is)
            ∙ sym (take_more (input_files options) count [] within);
        told = told-with file.told file.warns.log [] tt;
        there = All-push (IsThere (still_told old.log new.log)) so_far.files file.file (there-before file.told file.warns.log) (there-this file.told file.warns.log file.there);
        short = subst (All HasShortLines) (sym bytes)
            (All-push HasShortLines (bytes_of so_far.files) file.file.bytes so_far.short (short-stream tree options.prefix stream file.file.bytes mid.input new.input file.warned file.goes));
        warned = so_far.warned ++ file.warned;
        goes = λ more.
            ap (λ ls. reading tree options.prefix old.input (ls ++ more)) lines ∙ ap (reading tree options.prefix old.input) (append_assoc before these more)
            ∙ so_far.goes (these ++ more) ∙ ap (with_warnings so_far.warned) (file.goes more) ∙ with_warnings-both so_far.warned file.warned (reading tree options.prefix new.input more);
        warns = warns-as refl (ap (λ es. reads so_far.files ++ es) (file.reads_to ∙ sym (append-nil (reads_one file.file))) ∙ sym (flat_map-append reads_one so_far.files (file.file ∷ [])))
            (warns-then so_far.warns file.warns);
      }

  -- a line of it is too long
  pub reads-to-long : {number : ℕ} {new : Stand} → old.waiting.text.items ≡ [] → ReadsFile reader name may (Some number) mid new →
      ReadsInputs options tree (Some (record { stream = stream; number = number })) old.input new.input new.waiting old.log new.log
  reads-to-long {number = number} {new = new} none file =
      let stop : StreamLocation = record { stream = stream; number = number } in
      let warns = warns-then so_far.warns file.warns in
      let p = placed file.told file.warns.log file.named in
      let inputs = so_far.files ++ file.file ∷ p.later in
      let long = long-stream tree options.prefix stream file.file.bytes mid.input stop (λ more. ap (λ (r : ReadResult). r.stopped) (file.goes more)) in
      record {
        inputs = inputs;
        are_inputs = p.are;
        events = reads so_far.files ++ file.events;
        reads_to = subst (λ (fs : List InputFile). ReadsTo inputs (Some stop) (reads fs ++ file.events)) p.take-is (line stop count file.file file.events p.get p.turn long file.reads_to);
        there = there-to (still_told old.log new.log) so_far.files p.later file.file p.before (there-this file.told file.warns.log file.there) long;
        warned = so_far.warned ++ file.warned;
        reading_is = p.goes ∙ ap (with_warnings so_far.warned) (file.goes (lines_of (streams later_streams (bytes_of p.later))));
        log = subst (λ h. Leads (reads so_far.files ++ file.events) (said_now h (so_far.warned ++ file.warned)) old.log new.log) (sym warns.holds) warns.log;
        waits = waits-all none warns;
      }

  -- what was done of this file and said of it, behind the files before it
  stops-as : {told : Log} {file : InputFile} (p : IsPlaced file told) → old.input ≡ fresh_input options tree → old.waiting.holds ≡ holds_warnings options → {stop : Stop} {done : List Event} {front : List ℕ} →
      StopsFile reader file mid.waiting.holds mid.input stop done front →
      StopsInputs told options tree (so_far.files ++ file ∷ p.later) (reading tree options.prefix old.input (lines_of_all (bytes_of (so_far.files ++ file ∷ p.later)))).warned stop
      (reads so_far.files ++ done) (said_now old.waiting.holds so_far.warned ++ front)
  stops-as {told = told} {file = file} p fresh holds (in_lines stop done left front split stops) =
      stops-inputs told options tree _ old.waiting.holds stop _ (reads so_far.files ++ done) (left ++ reads p.later) (said_now old.waiting.holds so_far.warned ++ front)
      (append_assoc (reads so_far.files) done (left ++ reads p.later)
      ∙ ap (λ es. reads so_far.files ++ es) (sym (append_assoc done left (reads p.later)) ∙ ap (λ es. es ++ reads p.later) split)
      ∙ sym (flat_map-append reads_one so_far.files (file ∷ p.later)))
      (stops-behind-warns stop front so_far.warns (reading tree options.prefix mid.input (lines_from stream 1 file.bytes ++ lines_of (streams later_streams (bytes_of p.later)))) p.goes
      (stops (lines_of (streams later_streams (bytes_of p.later)))))
  stops-as {told = told} {file = file} p fresh holds (in_file f done front action called part) =
      in_input f file (reads so_far.files ++ done) (said_now old.waiting.holds so_far.warned ++ front) action called (record {
        i = count;
        is_file = p.get;
        turn = p.turn;
        there = subst (AreThere told) (sym p.take-is) (λ i other is turn. All-at (IsThere told) so_far.files i other p.before is);
        bytes = part.bytes;
        begins = part.begins;
        short = part.short;
        nothing_before = part.nothing_before;
        done_is = ap (λ es. reads so_far.files ++ es) part.done_is ∙ ap (λ (fs : List InputFile). reads fs ++ begun f.action file.name part.bytes) (sym p.take-is);
        said_is =
            let ended = ended_lines stream part.bytes in
            let rest = (reading tree options.prefix mid.input ended).warned in
            let warned : so_far.warned ++ rest ≡ warned_by options tree (so_far.files ++ file ∷ p.later) count part.bytes =
            sym (ap (λ (r : ReadResult). r.warned) (so_far.goes ended))
            ∙ ap (λ i. (reading tree options.prefix i (lines_of_all (bytes_of so_far.files) ++ ended)).warned) fresh
            ∙ ap (λ (fs : List InputFile). (reading tree options.prefix (fresh_input options tree) (lines_of_all (bytes_of fs) ++ ended)).warned) (sym p.take-is)
            ∙ ap (λ n. (reading tree options.prefix (fresh_input options tree) (lines_of_all (bytes_of (take count (so_far.files ++ file ∷ p.later))) ++ ended_lines n part.bytes)).warned) (sym stream_is) in
            ap (λ t. said_now old.waiting.holds so_far.warned ++ t) (part.front_is ∙ ap (λ h. said_now h rest) so_far.warns.holds)
            ∙ said-both old.waiting.holds so_far.warned rest
            ∙ ap (λ h. said_now h (so_far.warned ++ rest)) holds
            ∙ ap (said_now (holds_warnings options)) warned;
      })

  -- reading it was broken off
  pub breaks-inputs : {stop : Stop} {new : Stand} → old.input ≡ fresh_input options tree → old.waiting.holds ≡ holds_warnings options → BreaksFile reader name may stop mid new → BreaksInputs options tree stop old.input old.log new.log
  breaks-inputs {stop = stop} fresh holds breaks =
      let p = placed breaks.told breaks.log breaks.named in
      record {
        inputs = so_far.files ++ breaks.file ∷ p.later;
        are_inputs = p.are;
        done = reads so_far.files ++ breaks.done;
        front = said_now old.waiting.holds so_far.warned ++ breaks.front;
        stops = stops-as p fresh holds breaks.stops;
        log = Leads-as (sym (append_assoc (reads so_far.files) breaks.done (event_of stop))) refl (Leads-then so_far.warns.log breaks.log);
      }

-- ---- the names of the streams

module _ (options : Options) (names : List (Vec ℕ Global)) {i : ℕ} (are : map (λ (name : Vec ℕ Global). name.items) names ≡ input_names options) (within : i < length names) where
  pub within-inputs : i < length (input_files options)
  within-inputs =
      let same = ap length are in let count = names-count options in let mapped = length-map names (λ (name : Vec ℕ Global). name.items) in
      omega (arith, within, same, count, mapped)

  pub stream-at : {name : Vec ℕ Global} {stream : List ℕ} → name ≡ get_or names i name → stream ≡ name.items → get_or (input_names options) i [] ≡ stream
  stream-at {name = name} is same =
      ap (λ ns. get_or ns i []) (sym are) ∙ get_or-map (λ (name : Vec ℕ Global). name.items) names i name [] within
      ∙ ap (λ (n : Vec ℕ Global). n.items) (sym is) ∙ sym same
