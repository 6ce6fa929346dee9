-- What follows from what a device tells.
use Rattle.std.proofs.{Common.{Bool, Err, List, Ok, Option, Result, Some, [], ap, append_assoc, bytes_eq, false, fold, if◌then◌else◌, is_some, not, refl, subst, suc, sym, take, true, unwrap_or, zero, ℕ, ◌&&◌, ◌++◌, ◌||◌, ◌∙◌, ◌∷◌, ◌≡◌}, lemmas.{Grind.fold-append, List.{Folds.list_all-append, append-nil, map-append}}}
use Rattle.kc_io.specs.{Log.{Event, Journal, Leads, Log, Spot, Tells, acted, after, each_byte, failed, held, keeps_files, only_looks, opening, reading, reported, with_events}, PartsOfLog.contents, declared.device.{Action.{Action, TheVariants.{Clear, Close, Create, Miss, Move, Open, Read, Report, Write}}, Fault.Fault}}

-- ---- what follows what

pub both_events : (a b : List Event) (s t : List ℕ) (j : Journal) → with_events b t (with_events a s j) ≡ with_events (a ++ b) (s ++ t) j
both_events a b s t j =
    ap (λ (l : List Event). record { files = j.files; events = l; said = (j.said ++ s) ++ t }) (append_assoc j.events a b)
    ∙ ap (λ (l : List ℕ). record { files = j.files; events = j.events ++ (a ++ b); said = l }) (append_assoc j.said s t)

pub no_events : (j : Journal) → with_events [] [] j ≡ j
no_events j =
    ap (λ (l : List Event). record { files = j.files; events = l; said = j.said ++ [] }) (append-nil j.events)
    ∙ ap (λ (l : List ℕ). record { files = j.files; events = j.events; said = l }) (append-nil j.said)

-- events after events
pub leads_both : (a b : List Event) (s t : List ℕ) (old mid new : Log) → Leads a s old mid → Leads b t mid new → Leads (a ++ b) (s ++ t) old new
leads_both a b s t old mid new h w = record {
  told = λ end e.
      let m = w.told end e in
      let o = h.told m.0 m.1 in
      (o.0, o.1, sym (both_events a b s t o.0) ∙ ap (with_events b t) o.2 ∙ m.2);
}

-- nothing was done
pub leads_nothing : (log : Log) → Leads [] [] log log
leads_nothing log = record { told = λ end e. (end, e, no_events end) }

-- the same events, said otherwise
pub leads_as : (a b : List Event) (s : List ℕ) (old new : Log) → a ≡ b → Leads a s old new → Leads b s old new
leads_as a b s old new e h = subst (λ (l : List Event). Leads l s old new) e h

-- the same text, said otherwise
pub leads_said : (a : List Event) (s t : List ℕ) (old new : Log) → s ≡ t → Leads a s old new → Leads a t old new
leads_said a s t old new e h = subst (λ (l : List ℕ). Leads a l old new) e h

-- what is told behind it was told before it
pub told_before : (P : Journal → Type 0) (a : List Event) (s : List ℕ) (old new : Log) → Leads a s old new → Tells old P → Tells new (λ after. (before : Journal) × (old ≡ Some before) × (with_events a s before ≡ after) × P before)
told_before P a s old new h t = λ after known. let o = h.told after known in (o.0, o.1, o.2, t o.0 o.1)

pub bytes_both : (action : Action) (name xs ys : List ℕ) → each_byte action name (xs ++ ys) ≡ each_byte action name xs ++ each_byte action name ys
bytes_both action name xs ys = map-append _ xs ys

-- ---- what changes no file

-- what a file holds and what stands beside it
abbrev pub spot_of : Journal → List ℕ → Spot
spot_of journal name = fold (after name) (record { held = journal.files name; beside = [] }) journal.events

pub spot_more : (events : List Event) (text : List ℕ) (journal : Journal) (name : List ℕ) → spot_of (with_events events text journal) name ≡ fold (after name) (spot_of journal name) events
spot_more events text journal name = fold-append (after name) (record { held = journal.files name; beside = [] }) journal.events events

pub looks_acts : (action : Action) (bytes : List ℕ) (spot : Spot) → only_looks action ≡ true → acted action bytes spot ≡ spot
looks_acts Open bytes spot h = refl
looks_acts Miss bytes spot h = refl
looks_acts Read bytes spot h = refl
looks_acts (Create site) bytes spot h = cc
looks_acts (Write site) bytes spot h = cc
looks_acts (Close site) bytes spot h = refl
looks_acts Move bytes spot h = cc
looks_acts Clear bytes spot h = refl
looks_acts Report bytes spot h = refl

pub looks_after : (name : List ℕ) (spot : Spot) (event : Event) → (is_some event.fault || only_looks event.action) ≡ true → after name spot event ≡ spot
looks_after name spot event h = one (is_some event.fault) (bytes_eq name event.name) h
  where
    one : (faulty same : Bool) → (faulty || only_looks event.action) ≡ true → (if faulty || not same then spot else acted event.action event.bytes spot) ≡ spot
    one true same h = refl
    one false true h = looks_acts event.action event.bytes spot h
    one false false h = refl

pub keeps_spot : (name : List ℕ) (events : List Event) (spot : Spot) → keeps_files events ≡ true → fold (after name) spot events ≡ spot
keeps_spot name [] spot h = refl
keeps_spot name (event ∷ events) spot h =
    let both = and-both (is_some event.fault || only_looks event.action) (keeps_files events) h in
    ap (λ (s : Spot). fold (after name) s events) (looks_after name spot event both.0) ∙ keeps_spot name events spot both.1
  where
    and-both : (a b : Bool) → (a && b) ≡ true → (a ≡ true) × (b ≡ true)
    and-both true b h = (refl, h)
    and-both false b h = absurd (cc)

-- what each file holds stays
pub held_stays : (events : List Event) (text : List ℕ) (journal : Journal) (name : List ℕ) → keeps_files events ≡ true → held (with_events events text journal) name ≡ held journal name
held_stays events text journal name h =
    ap (λ (s : Spot). s.held) (spot_more events text journal name ∙ keeps_spot name events (spot_of journal name) h)

-- and what it gives
pub contents_stay : (events : List Event) (text : List ℕ) (old new : Log) (name : List ℕ) → keeps_files events ≡ true → Leads events text old new → Tells new (λ journal. contents old name ≡ contents new name)
contents_stay events text old new name h w = λ after known.
    let o = w.told after known in
    let same = ap (λ (found : Option (List ℕ)). Some (unwrap_or found [])) (sym (held_stays events text o.0 name h) ∙ ap (λ (j : Journal). held j name) o.2) in
    ap (λ (l : Log). contents l name) o.1 ∙ same ∙ sym (ap (λ (l : Log). contents l name) known)

-- ---- which do

pub keeps_both : (a b : List Event) → keeps_files a ≡ true → keeps_files b ≡ true → keeps_files (a ++ b) ≡ true
keeps_both a b h w = list_all-append _ a b ∙ rw (h, w) refl

pub keeps_failed : (action : Action) (name : List ℕ) (fault : Fault) → keeps_files (failed action name fault) ≡ true
keeps_failed action name fault = refl

pub keeps_bytes : (action : Action) (name bytes : List ℕ) → only_looks action ≡ true → keeps_files (each_byte action name bytes) ≡ true
keeps_bytes action name [] h = refl
keeps_bytes action name (byte ∷ bytes) h = rw h (keeps_bytes action name bytes h)

pub keeps_reported : (answer : Result (Unit {0}) Fault) → keeps_files (reported answer) ≡ true
keeps_reported (Ok _) = refl
keeps_reported (Err fault) = refl

pub keeps_opening : (answer : Result Bool Fault) (name : List ℕ) → keeps_files (opening answer name) ≡ true
keeps_opening (Ok true) name = refl
keeps_opening (Ok false) name = refl
keeps_opening (Err fault) name = refl

pub keeps_reading : (answer : Result ℕ Fault) (name buffer : List ℕ) → keeps_files (reading answer name buffer) ≡ true
keeps_reading (Ok zero) name buffer = refl
keeps_reading (Ok (suc count)) name buffer = keeps_bytes Read name (take (suc count) buffer) refl
keeps_reading (Err fault) name buffer = refl
