-- One input file.
use Rattle.std.proofs.Common.{◌≡◌, ℕ, zero, suc, ◌<◌, ◌≤◌, Bool, true, false, List, [], ◌++◌, length, take, refl, sym, ap, subst, ◌∙◌, append_assoc, append-nil, arith, Option, Some, None, Ok, inl, inr}
use Rattle.std.specs.Prelude.{◌&&◌, is_none, is_some, unwrap_or, option_map}
use Rattle.std.proofs.lemmas.List.Elements.{All-nil}
use Rattle.kc_language.specs.Lines.{is_line_feed}
use Rattle.kc_text.specs.PartsOfLines.{HoldsNoLineFeed}
use Rattle.kc_io.specs.Log.{Event, Journal, Log, Leads, did, each_byte, held, IsAtEnd, IsFound, OpenFile, ReadsOn}
use Rattle.kc_io.specs.PartsOfLog.{contents}
use Rattle.kc_io.specs.Log as device
use Rattle.kc_io.specs.declared.device.Action.TheVariants.{Miss, Open, Read}
use Rattle.kc_io.proofs.LogLemmas.{bytes_both, leads_nothing}
use Rattle.kc_input.specs.Feeding.{ReadsPiece, StreamPosition, stream_start, to_come}
use Rattle.kc_input.specs.ReaderState.{ReaderState}
use Rattle.kc_language.specs.ConfigFile.{Line, lines_from, reading}
use Rattle.kc_input.specs.Reading.{with_warnings}
use Rattle.kc_conf.specs.Faults.{event_of}
use Rattle.kc_io.specs.Inputs.{InputFile, IsAsTold, IsThere, begun, reads_one, still_told}
use Rattle.kc_conf.specs.PartsOfFaults.{ended_lines}
use Rattle.kc_conf.specs.ReadSteps.{BreaksEnd, BreaksFile, BreaksOpened, BreaksPiece, EndsFile, FailsAt, Gives, IsStillFresh, Opens, ReadsFile, ReadsOpened, Stand, TakesPiece, TakesSoFar, Warns, in_file, in_lines, said_now, there_file}
use Rattle.kc_conf.specs.declared.stop.Stop.{Stop}
use Rattle.kc_conf.specs.declared.stop.Stop.TheVariants.{OutOfMemory, Failed}
use Rattle.kc_conf.proofs.GivenLemmas.{as_told, is-as_told, named-as_told}
use Rattle.kc_conf.proofs.PartLemmas.{lines_from-last, short-piece, warned-ended}
use Rattle.kc_conf.proofs.StepLemmas.{said-nothing, stops-behind-warns, warns-as, warns-done, warns-then, with_warnings-both}
use Rattle.kc_conf.proofs.TellingLemmas.{Leads-as, Leads-then, still-known}

-- ---- what a file gives

-- what it has still to give, where that is told
pub left_of : Option (List ℕ) → List ℕ
left_of left = unwrap_or left []

gives-all : (given left : Option (List ℕ)) (bytes : List ℕ) → given ≡ option_map (λ rest. bytes ++ rest) left → Gives given (bytes ++ left_of left)
unfolding left_of
gives-all None left bytes is = tt
gives-all (Some all) None bytes is = absurd cc
gives-all (Some all) (Some rest) bytes is = cc

gives-end : (given left : Option (List ℕ)) (bytes : List ℕ) → given ≡ option_map (λ rest. bytes ++ rest) left → IsAtEnd left → Gives given bytes
gives-end None left bytes is end = tt
gives-end (Some all) None bytes is end = absurd cc
gives-end (Some all) (Some rest) bytes is end =
    let e : all ≡ bytes ++ rest = cc in e ∙ ap (λ r. bytes ++ r) end ∙ append-nil bytes

given-then : (given mid left : Option (List ℕ)) (a b : List ℕ) → given ≡ option_map (λ rest. a ++ rest) mid → mid ≡ option_map (λ rest. b ++ rest) left → given ≡ option_map (λ rest. (a ++ b) ++ rest) left
given-then given mid left a b first second = first ∙ ap (option_map (λ rest. a ++ rest)) second ∙ both left
  where
    both : (left : Option (List ℕ)) → option_map (λ rest. a ++ rest) (option_map (λ rest. b ++ rest) left) ≡ option_map (λ rest. (a ++ b) ++ rest) left
    both None = refl
    both (Some rest) = ap Some (sym (append_assoc a b rest))

given-nothing : (left : Option (List ℕ)) → left ≡ option_map (λ rest. [] ++ rest) left
given-nothing None = refl
given-nothing (Some rest) = refl

-- some bytes are events of their own, and none is the end
pub reading-some : (count : ℕ) (name buffer : List ℕ) (old new : Log) → 0 < count → Leads (device.reading (Ok count) name buffer) [] old new → Leads (each_byte Read name (take count buffer)) [] old new
reading-some zero name buffer old new some leads = absurd (omega (arith, some))
reading-some (suc count) name buffer old new some leads = leads

pub reading-end : (count : ℕ) (name buffer : List ℕ) (old new : Log) → count ≡ 0 → Leads (device.reading (Ok count) name buffer) [] old new → Leads (did Read name) [] old new
reading-end count name buffer old new none leads = subst (λ n. Leads (device.reading (Ok n) name buffer) [] old new) none leads

-- ---- piece by piece

-- the state when the device was called
abbrev pub called : Stand → OpenFile → Log → Stand
called now file log = record now { file = file; log = log }

-- nothing was read yet
pub takes-nothing : (reader : ReaderState) (name : List ℕ) (position : StreamPosition) (stand : Stand) → position ≡ stream_start → TakesSoFar reader name position stand stand
takes-nothing reader name position stand start = record {
  bytes = [];
  given = given-nothing stand.file.to_come;
  warned = [];
  takes = subst (λ p. ReadsPiece reader.tree reader.prefix reader.name [] stream_start p stand.input stand.input []) (sym start) (λ rest more. refl);
  warns = warns-done stand stand refl (leads_nothing stand.log);
}

pub fresh-at-start : (reader : ReaderState) → reader.refusal ≡ None → reader.position ≡ stream_start → IsStillFresh reader reader
fresh-at-start reader none start = record {
  same = refl;
  fresh = none;
  waits = subst (λ (p : StreamPosition). HoldsNoLineFeed p.pending) (sym start) (All-nil (λ b. is_line_feed b ≡ false));
}

pub still-then : {reader mid new : ReaderState} → IsStillFresh reader mid → IsStillFresh mid new → IsStillFresh reader new
still-then {new = new} first second = record {
  same = second.same ∙ ap (λ (r : ReaderState). let s : ReaderState = record r { position = new.position } in s) first.same;
  fresh = second.fresh;
  waits = second.waits;
}

module _ {reader : ReaderState} {name : List ℕ} {position : StreamPosition} {old now : Stand} (so_far : TakesSoFar reader name position old now) where
  -- what follows is reported behind what was reported so far
  abbrev said_behind : List ℕ → List ℕ
  said_behind front = said_now old.waiting.holds so_far.warned ++ front

  abbrev at : ReaderState
  at = record reader { position = position }

  -- The file could not be read on.
  pub breaks-unread : {stop : Stop} {new : Stand} → HoldsNoLineFeed position.pending → length position.pending ≤ 65535 → FailsAt Read name stop now.log new.log → BreaksOpened reader name stop old new
  breaks-unread {stop = OutOfMemory} waits few fails = absurd fails
  breaks-unread {stop = Failed f} waits few fails = record {
    bytes = so_far.bytes ++ left_of now.file.to_come;
    gives = gives-all old.file.to_come now.file.to_come so_far.bytes so_far.given;
    done = each_byte Read name so_far.bytes;
    front = said_now old.waiting.holds so_far.warned;
    stops = in_file f (did Open name ++ each_byte Read name so_far.bytes) (said_now old.waiting.holds so_far.warned) (inr fails.0) fails.1
        (record {
          bytes = so_far.bytes;
          begins = (left_of now.file.to_come, refl);
          short = short-piece reader.tree reader.prefix reader.name so_far.bytes position old.input now.input so_far.warned waits few so_far.takes;
          nothing_before = λ opens. absurd (let clash : Read ≡ Open = sym fails.0 ∙ opens in cc);
          done_is = ap (λ action. begun action name so_far.bytes) (sym fails.0);
          front_is = ap (said_now old.waiting.holds) (warned-ended reader.tree reader.prefix reader.name so_far.bytes position old.input now.input so_far.warned waits so_far.takes);
        });
    log = Leads-as refl (append-nil (said_now old.waiting.holds so_far.warned)) (Leads-then so_far.warns.log fails.2);
  }

  module _ {count : ℕ} {buffer : List ℕ} {file : OpenFile} {log : Log} (on : ReadsOn count buffer now.file file) (done : Leads (device.reading (Ok count) name buffer) [] now.log log) where
    abbrev mid : Stand
    mid = called now file log

    given-next : old.file.to_come ≡ option_map (λ rest. (so_far.bytes ++ take count buffer) ++ rest) file.to_come
    given-next = given-then old.file.to_come now.file.to_come file.to_come so_far.bytes (take count buffer) so_far.given on.bytes

    -- some bytes were read
    module _ (some : 0 < count) where
      abbrev piece : List ℕ
      piece = take count buffer

      abbrev bytes : List ℕ
      bytes = so_far.bytes ++ piece

      abbrev all : List ℕ
      all = bytes ++ left_of file.to_come

      warns-piece : Warns so_far.warned (each_byte Read name bytes) old mid
      warns-piece =
          warns-as (append-nil so_far.warned) (sym (bytes_both Read name so_far.bytes piece)) (warns-then so_far.warns (warns-done now mid refl (reading-some count name buffer now.log log some done)))

      goes-piece : (rest : List ℕ) (more : List Line) → reading reader.tree reader.prefix old.input (to_come reader.name stream_start (bytes ++ rest) more)
          ≡ with_warnings so_far.warned (reading reader.tree reader.prefix now.input (to_come reader.name position (piece ++ rest) more))
      goes-piece rest more =
          ap (λ p. reading reader.tree reader.prefix old.input (to_come reader.name stream_start p more)) (append_assoc so_far.bytes piece rest) ∙ so_far.takes (piece ++ rest) more

      warns-more : {long : Option ℕ} {after : ReaderState} {new : Stand} (takes : TakesPiece at piece long after mid new) → Warns (so_far.warned ++ takes.warned) (each_byte Read name bytes) old new
      warns-more takes = warns-as refl (append-nil (each_byte Read name bytes)) (warns-then warns-piece takes.warns)

      -- the piece was taken
      pub takes-more : {after : ReaderState} {new : Stand} → TakesPiece at piece None after mid new → TakesSoFar reader name after.position old new
      takes-more {after = after} {new = new} takes = record {
        bytes = bytes;
        given = given-next ∙ ap (λ (f : OpenFile). option_map (λ rest. bytes ++ rest) f.to_come) (sym takes.same_file);
        warned = so_far.warned ++ takes.warned;
        takes = λ rest more.
            goes-piece rest more ∙ ap (with_warnings so_far.warned) (takes.takes rest more)
            ∙ with_warnings-both so_far.warned takes.warned (reading reader.tree reader.prefix new.input (to_come reader.name after.position rest more));
        warns = warns-more takes;
      }

      -- its bytes were read, and no others
      left-events : (did Open name ++ each_byte Read name bytes) ++ (each_byte Read name (left_of file.to_come) ++ did Read name) ≡ reads_one (there_file name all)
      left-events =
          sym (append_assoc (did Open name ++ each_byte Read name bytes) (each_byte Read name (left_of file.to_come)) (did Read name))
          ∙ ap (λ es. es ++ did Read name)
          (append_assoc (did Open name) (each_byte Read name bytes) (each_byte Read name (left_of file.to_come)) ∙ ap (λ es. did Open name ++ es) (sym (bytes_both Read name bytes (left_of file.to_come))))

      -- a line of it is too long
      pub reads-long : {number : ℕ} {after : ReaderState} {new : Stand} → TakesPiece at piece (Some number) after mid new → ReadsOpened reader name (Some number) old new
      reads-long takes = record {
        bytes = all;
        gives = gives-all old.file.to_come file.to_come bytes given-next;
        events = each_byte Read name bytes;
        reads_to = record { left = each_byte Read name (left_of file.to_come) ++ did Read name; begins = left-events };
        warned = so_far.warned ++ takes.warned;
        goes = λ more. goes-piece (left_of file.to_come) more ∙ ap (with_warnings so_far.warned) (takes.takes (left_of file.to_come) more);
        warns = warns-more takes;
      }

      -- taking it was broken off
      pub breaks-piece : {stop : Stop} {new : Stand} → BreaksPiece at piece stop mid new → BreaksOpened reader name stop old new
      breaks-piece {stop = stop} breaks = record {
        bytes = all;
        gives = gives-all old.file.to_come file.to_come bytes given-next;
        done = each_byte Read name bytes;
        front = said_behind breaks.front;
        stops = in_lines stop (did Open name ++ each_byte Read name bytes) (each_byte Read name (left_of file.to_come) ++ did Read name) (said_behind breaks.front) left-events
            (λ more. stops-behind-warns stop breaks.front warns-piece (reading reader.tree reader.prefix now.input (to_come reader.name position (piece ++ left_of file.to_come) more))
            (goes-piece (left_of file.to_come) more) (breaks.stops (left_of file.to_come) more));
        log = Leads-then warns-piece.log breaks.log;
      }

    -- the file has no more
    module _ (none : count ≡ 0) (room : 0 < length buffer) where
      abbrev events : List Event
      events = each_byte Read name so_far.bytes ++ did Read name

      gives-so_far : Gives old.file.to_come so_far.bytes
      gives-so_far =
          subst (Gives old.file.to_come) (ap (λ n. so_far.bytes ++ take n buffer) none ∙ append-nil so_far.bytes)
          (gives-end old.file.to_come file.to_come (so_far.bytes ++ take count buffer) given-next (on.end none room))

      warns-end : Warns so_far.warned events old mid
      warns-end = warns-as (append-nil so_far.warned) refl (warns-then so_far.warns (warns-done now mid refl (reading-end count name buffer now.log log none done)))

      goes-end : (more : List Line) → reading reader.tree reader.prefix old.input (lines_from reader.name 1 so_far.bytes ++ more)
          ≡ with_warnings so_far.warned (reading reader.tree reader.prefix now.input (lines_from reader.name position.number position.pending ++ more))
      goes-end more =
          ap (λ b. reading reader.tree reader.prefix old.input (lines_from reader.name 1 b ++ more)) (sym (append-nil so_far.bytes)) ∙ so_far.takes [] more
          ∙ ap (λ b. with_warnings so_far.warned (reading reader.tree reader.prefix now.input (lines_from reader.name position.number b ++ more))) (append-nil position.pending)

      all-events : did Open name ++ events ≡ reads_one (there_file name so_far.bytes)
      all-events = sym (append_assoc (did Open name) (each_byte Read name so_far.bytes) (did Read name))

      -- its last line was ended
      pub reads-whole : {new : Stand} → EndsFile at mid new → ReadsOpened reader name None old new
      reads-whole {new = new} ends = record {
        bytes = so_far.bytes;
        gives = gives-so_far;
        events = events;
        reads_to = all-events;
        warned = so_far.warned ++ ends.warned;
        goes = λ more.
            goes-end more ∙ ap (with_warnings so_far.warned) (ends.ends more) ∙ with_warnings-both so_far.warned ends.warned (reading reader.tree reader.prefix new.input more);
        warns = warns-as refl (append-nil events) (warns-then warns-end ends.warns);
      }

      -- or that was broken off
      pub breaks-end : {stop : Stop} {new : Stand} → BreaksEnd at stop mid new → BreaksOpened reader name stop old new
      breaks-end {stop = stop} breaks = record {
        bytes = so_far.bytes;
        gives = gives-so_far;
        done = events;
        front = said_behind breaks.front;
        stops = in_lines stop (did Open name ++ events) [] (said_behind breaks.front) (append-nil (did Open name ++ events) ∙ all-events)
            (λ more. stops-behind-warns stop breaks.front warns-end (reading reader.tree reader.prefix now.input (lines_from reader.name position.number position.pending ++ more)) (goes-end more) (breaks.stops more));
        log = Leads-then warns-end.log breaks.log;
      }

-- ---- a file

-- a file that was opened gives what it is told to hold
told-there : (old new : Log) (name bytes : List ℕ) (may : Bool) (given : Option (List ℕ)) → IsFound old name may true → given ≡ contents old name → Gives given bytes →
    IsAsTold (still_told old new) may (there_file name bytes)
told-there old new name bytes may given found is gives = record {
  missing = λ not. absurd cc;
  told = λ journal still.
      let known = (still-known old new journal still).0 in
      let whole : Gives (Some (unwrap_or (held journal name) [])) bytes =
      subst (λ g. Gives g bytes) (is ∙ ap (λ log. contents log name) known) gives in
      (sym whole, sym (some may (held journal name) (found.told journal known)));
}
  where
    some : (may : Bool) (found : Option (List ℕ)) → is_some found ≡ true → (may && is_none found) ≡ false
    some true None is = absurd cc
    some true (Some bytes) is = refl
    some false found is = refl

-- and is there
there-found : (old new : Log) (name given : List ℕ) (may : Bool) → IsFound old name may true → IsThere (still_told old new) (there_file name given)
there-found old new name given may found = λ not_missing journal still. found.told journal ((still-known old new journal still).0)

-- and one that is not there is told to be so
told-none : (old new : Log) (name : List ℕ) (may : Bool) → IsFound old name may false → IsAsTold (still_told old new) may (record { name = name; is_missing = true; bytes = [] })
told-none old new name may found = record {
  missing = λ _. (found.missing refl, refl);
  told = λ journal still. none may (held journal name) (found.missing refl) (found.told journal ((still-known old new journal still).0));
}
  where
    none : (may : Bool) (found : Option (List ℕ)) → may ≡ true → is_some found ≡ false → (let nothing : List ℕ = [] in nothing ≡ unwrap_or found []) × (true ≡ (may && is_none found))
    none true None is not = (refl, refl)
    none true (Some bytes) is not = absurd cc
    none false found is not = absurd cc

module _ {reader : ReaderState} {name : List ℕ} {may : Bool} {old : Stand} {file : OpenFile} {log : Log} where
  -- it was opened and read
  pub reads-there : {long : Option ℕ} {new : Stand} → Opens name may true old.log log file → ReadsOpened reader name long (called old file log) new → ReadsFile reader name may long old new
  reads-there {new = new} opens reads = record {
    file = there_file name reads.bytes;
    named = refl;
    told = told-there old.log new.log name reads.bytes may file.to_come opens.found (opens.opened refl) reads.gives;
    there = there-found old.log new.log name reads.bytes may opens.found;
    events = did Open name ++ reads.events;
    reads_to = reads.reads_to;
    warned = reads.warned;
    goes = reads.goes;
    warns = warns-then (warns-done old (called old file log) refl opens.log) reads.warns;
  }

  -- or that was broken off
  pub breaks-there : {stop : Stop} {new : Stand} → Opens name may true old.log log file → BreaksOpened reader name stop (called old file log) new → BreaksFile reader name may stop old new
  breaks-there {stop = stop} {new = new} opens breaks = record {
    file = there_file name breaks.bytes;
    named = refl;
    told = told-there old.log new.log name breaks.bytes may file.to_come opens.found (opens.opened refl) breaks.gives;
    done = did Open name ++ breaks.done;
    front = breaks.front;
    stops = breaks.stops;
    log = Leads-as (sym (append_assoc (did Open name) breaks.done (event_of stop))) refl (Leads-then opens.log breaks.log);
  }

  -- there is none
  pub reads-none : Opens name may false old.log log file → ReadsFile reader name may None old (called old file log)
  reads-none opens = record {
    file = record { name = name; is_missing = true; bytes = [] };
    named = refl;
    told = told-none old.log log name may opens.found;
    there = λ not_missing. absurd (let clash : true ≡ false = not_missing in cc);
    events = did Miss name;
    reads_to = refl;
    warned = [];
    goes = λ more. ap (λ ls. reading reader.tree reader.prefix old.input (ls ++ more)) (lines_from-last reader.name 1 [] (All-nil (λ b. is_line_feed b ≡ false)));
    warns = warns-done old (called old file log) refl opens.log;
  }

-- it could not be opened
pub breaks-closed : {reader : ReaderState} {name : List ℕ} {may : Bool} {stop : Stop} {old new : Stand} → FailsAt Open name stop old.log new.log → BreaksFile reader name may stop old new
breaks-closed {stop = OutOfMemory} fails = absurd fails
breaks-closed {reader = reader} {name = name} {may = may} {stop = Failed f} {old = old} {new = new} fails =
    let file = as_told (still_told old.log new.log) may name in
    let none = All-nil (λ b. is_line_feed b ≡ false) in
    record {
      file = file;
      named = named-as_told (still_told old.log new.log) may name;
      told = is-as_told (still_told old.log new.log) may name;
      done = [];
      front = [];
      stops = in_file f [] [] (inl fails.0) (fails.1 ∙ sym (named-as_told (still_told old.log new.log) may name))
          (record {
            bytes = [];
            begins = (file.bytes, refl);
            short = short-piece reader.tree reader.prefix reader.name [] stream_start old.input old.input [] none (omega arith) (λ rest more. refl);
            nothing_before = λ _. refl;
            done_is = ap (λ action. begun action file.name []) (sym fails.0);
            front_is = sym (said-nothing old.waiting.holds)
                ∙ ap (said_now old.waiting.holds) (warned-ended reader.tree reader.prefix reader.name [] stream_start old.input old.input [] none (λ rest more. refl));
          });
      log = fails.2;
    }
