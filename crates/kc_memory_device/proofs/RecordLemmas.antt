-- What records tell.
use Rattle.std.proofs.{Common.{Err, IfOk, List, None, Ok, Option, Result, Some, Vec, [], ap, bytes_eq, false, fold, is_some, refl, string_bytes, sym, true, ℕ, ◌++◌, ◌∙◌, ◌∷◌, ◌≡◌}, lemmas.{Grind.flat_map-append, List.append-nil}}
use Rattle.std.specs.declared.alloc.Global.{Global}
use Rattle.kc_io.specs.{Log.{Event, Journal, Leads, Spot, acted, after, each_byte}, declared.device.{Action.{Action, TheVariants.{Clear, Close, Create, Miss, Move, Open, Read, Report, Write}}, Fault.Fault, Site.TheVariants.{Beside, Place}}}
use Rattle.kc_io.proofs.{HeldLemmas.{bytes_other, bytes_own}, LogLemmas.{keeps_bytes, keeps_spot}}
use Rattle.kc_memory_device.specs.{Recorded.{asked, done, events_in, events_of, told}, declared.record.Record.Record}

-- one record more
pub events_more : (records : List Record) (r : Record) → events_of (records ++ r ∷ []) ≡ events_of records ++ events_in r
events_more records r = flat_map-append events_in records (r ∷ []) ∙ ap (λ (l : List Event). events_of records ++ l) (append-nil (events_in r))

pub leads_record : (files : List ℕ → Option (List ℕ)) (said : List ℕ) (log : Option (Vec Record Global)) (records more : Vec Record Global) (r : Record) (name bytes : List ℕ) → log ≡ Some records → more.items ≡ records.items ++ r ∷ [] → string_bytes r.name ≡ name → r.bytes.items ≡ bytes → Leads (asked r.action name bytes r.fault) [] (told files log said) (told files (Some more) said)
leads_record files said log records more r name bytes was grown named held = rw (← named, ← held) (record {
  told = λ end known.
      let before : Journal = record { files = files; events = events_of records.items; said = said } in
      let events = ap events_of grown ∙ events_more records.items r in (
        before,
        ap (λ (l : Option (Vec Record Global)). told files l said) was,
        ap (λ (l : List ℕ). record { files = files; events = events_of records.items ++ events_in r; said = l }) (append-nil said)
            ∙ ap (λ (l : List Event). record { files = files; events = l; said = said }) (sym events)
            ∙ cc,
      );
})

-- a call that is of another name, and one of this name
pub passed_over : (name : List ℕ) (action : Action) (n bytes : List ℕ) (spot : Spot) → bytes_eq name n ≡ false → fold (after name) spot (done action n bytes) ≡ spot
passed_over name (Write site) n bytes spot e = bytes_other name n site bytes spot e
passed_over name Read n [] spot e = rw e refl
passed_over name Read n (x ∷ bytes) spot e = keeps_spot name (each_byte Read n (x ∷ bytes)) spot (keeps_bytes Read n (x ∷ bytes) refl)
passed_over name Open n bytes spot e = rw e refl
passed_over name Miss n bytes spot e = rw e refl
passed_over name (Create site) n bytes spot e = rw e refl
passed_over name (Close site) n bytes spot e = rw e refl
passed_over name Move n bytes spot e = rw e refl
passed_over name Clear n bytes spot e = rw e refl
passed_over name Report n bytes spot e = rw e refl

pub taken : (name : List ℕ) (action : Action) (n bytes : List ℕ) (spot : Spot) → bytes_eq name n ≡ true → fold (after name) spot (done action n bytes) ≡ acted action bytes spot
taken name (Write site) n bytes spot e = bytes_own name n site bytes spot e
taken name Read n [] spot e = rw e refl
taken name Read n (x ∷ bytes) spot e = keeps_spot name (each_byte Read n (x ∷ bytes)) spot (keeps_bytes Read n (x ∷ bytes) refl)
taken name Open n bytes spot e = rw e refl
taken name Miss n bytes spot e = rw e refl
taken name (Create Place) n bytes spot e = rw e refl
taken name (Create Beside) n bytes spot e = rw e refl
taken name (Close site) n bytes spot e = rw e refl
taken name Move n bytes spot e = rw e refl
taken name Clear n bytes spot e = rw e refl
taken name Report n bytes spot e = rw e refl

-- a call changes what is held only where it did not fail, at its name
pub spot_failed : (name : List ℕ) (action : Action) (n bytes : List ℕ) (fault : Option Fault) (spot : Spot) → is_some fault ≡ true → fold (after name) spot (asked action n bytes fault) ≡ spot
spot_failed name action n bytes (Some fault) spot h = refl
spot_failed name action n bytes None spot h = cc

pub spot_other : (name : List ℕ) (action : Action) (n bytes : List ℕ) (fault : Option Fault) (spot : Spot) → bytes_eq name n ≡ false → fold (after name) spot (asked action n bytes fault) ≡ spot
spot_other name action n bytes (Some fault) spot e = refl
spot_other name action n bytes None spot e = passed_over name action n bytes spot e

pub spot_own : (name : List ℕ) (action : Action) (n bytes : List ℕ) (fault : Option Fault) (spot : Spot) → is_some fault ≡ false → bytes_eq name n ≡ true → fold (after name) spot (asked action n bytes fault) ≡ acted action bytes spot
spot_own name action n bytes (Some fault) spot h e = cc
spot_own name action n bytes None spot h e = taken name action n bytes spot e

-- the same of what is there where it went well
pub if_ok_as : {X E : Type 0} (r : Result X E) (a b c : Spot) → b ≡ c → IfOk r (λ _. a ≡ b) → IfOk r (λ _. a ≡ c)
if_ok_as (Ok x) a b c e h = h ∙ e
if_ok_as (Err x) a b c e h = tt

-- words more
pub leads_words : (files : List ℕ → Option (List ℕ)) (records : Option (Vec Record Global)) (said more words : List ℕ) → more ≡ said ++ words → Leads [] words (told files records said) (told files records more)
leads_words files None said more words grown = record { told = λ end known. cc }
leads_words files (Some r) said more words grown = record {
  told = λ end known.
      let before : Journal = record { files = files; events = events_of r.items; said = said } in (
        before,
        refl,
        ap (λ (l : List Event). record { files = files; events = l; said = said ++ words }) (append-nil (events_of r.items))
            ∙ ap (λ (l : List ℕ). record { files = files; events = events_of r.items; said = l }) (sym grown)
            ∙ cc,
      );
}
