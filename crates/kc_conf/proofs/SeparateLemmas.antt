-- Which files a turn leaves as they are, and what a whole one makes of the others.
use Rattle.std.proofs.Common.{◌≡◌, ◌⊎◌, inl, inr, ℕ, Bool, true, false, not, ◌||◌, ◌&&◌, cond, List, [], ◌∷◌, ◌++◌, fold, take, refl, sym, ap, subst, ◌∙◌, Option, None, Some, map, string_bytes, bytes_eq, is_some, if◌then◌else◌}
use Rattle.std.specs.List.{flat_map, list_all, list_any}
use Rattle.std.specs.Option.{option_map_or}
use Rattle.std.proofs.lemmas.Grind.{fold-append}
use Rattle.std.proofs.lemmas.List.Folds.{list_all-append}
use Rattle.std.proofs.lemmas.Slice.Eq.{bytes_eq-Decides}
use Rattle.kc_io.specs.Log.{keeps_files, only_looks, Event, Journal, Leads, Spot, acted, after, did, each_byte, held, is_held, reported}
use Rattle.kc_io.specs.Delivery.{last_of, NamedText, chosen, delivery, moved, put, share_name, stale}
use Rattle.kc_io.specs.declared.delivery.Manner.{Manner}
use Rattle.kc_io.specs.declared.delivery.Manner.TheVariants.{InPlace, Replacing}
use Rattle.kc_io.specs.declared.device.Action.{Action}
use Rattle.kc_io.specs.declared.device.Action.TheVariants.{Open, Miss, Read, Create, Write, Close, Move, Clear, Report}
use Rattle.kc_io.specs.declared.device.Site.{Site}
use Rattle.kc_io.specs.declared.device.Site.TheVariants.{Place, Beside}
use Rattle.kc_io.proofs.HeldLemmas.{delivery_held}
use Rattle.kc_io.proofs.LogLemmas.{keeps_both, keeps_bytes, keeps_reported, looks_acts, spot_more, spot_of}
use Rattle.kc_language.specs.Expansion.{Files}
use Rattle.kc_language.specs.Symbols.{TreeFacts}
use Rattle.kc_conf.specs.Faults.{Breaks, Broken, Completes, in_delivery, in_input, in_diagnostics, no_memory, clearing, event_of}
use Rattle.kc_io.specs.Delivery.{delivers, texts_of, with_names, cleared_by}
use Rattle.kc_io.specs.Inputs.{InputFile, begun, reads}
use Rattle.kc_conf.specs.PartsOfFaults.{delivered_by}
use Rattle.kc_outcome.specs.Outcome.{Options, Outcome}
use Rattle.kc_outcome.specs.declared.outcome.Delivery.{Delivery}
use Rattle.kc_outcome.specs.declared.outcome.Delivery.TheVariants as delivered
use Rattle.kc_outcome.specs.declared.outcome.Status.{Status}
use Rattle.kc_outcome.specs.declared.outcome.WantedOutput.{WantedOutput}
use Rattle.kc_conf.specs.declared.stop.Stop.{Stop}
use Rattle.kc_conf.specs.declared.stop.Stop.TheVariants.{OutOfMemory, Failed}
use Rattle.kc_conf.proofs.GivenLemmas.{and-both, first-begin, keeps-are_reads, keeps-reads}
use Rattle.kc_conf.specs.Many.{is_among, output_files, written_files}
use Rattle.kc_conf.specs.PartsOfMany.{written_by}

and-of : (a b : Bool) → a ≡ true → b ≡ true → (a && b) ≡ true
and-of true b h w = w
and-of false b h w = h

or-neither : (a b : Bool) → (a || b) ≡ false → (a ≡ false) × (b ≡ false)
or-neither true b h = absurd (let clash : true ≡ false = h in cc)
or-neither false b h = (refl, h)

or-of : (a b : Bool) → a ≡ false → b ≡ false → (a || b) ≡ false
or-of true b h w = h
or-of false b h w = w

-- ---- events that leave a file

module _ (name : List ℕ) where
  -- the event changes neither this file nor what stands beside it
  abbrev passes : Event → Bool
  passes event = is_some event.fault || (not (bytes_eq name event.name) || only_looks event.action)

  abbrev pass : List Event → Bool
  pass events = list_all passes events

  passes_spot : (event : Event) (spot : Spot) → passes event ≡ true → after name spot event ≡ spot
  passes_spot event spot h = one (is_some event.fault) (bytes_eq name event.name) h
    where
      one : (faulty same : Bool) → (faulty || (not same || only_looks event.action)) ≡ true → (if faulty || not same then spot else acted event.action event.bytes spot) ≡ spot
      one true same h = refl
      one false true h = looks_acts event.action event.bytes spot h
      one false false h = refl

  pass_spot : (events : List Event) (spot : Spot) → pass events ≡ true → fold (after name) spot events ≡ spot
  pass_spot [] spot h = refl
  pass_spot (event ∷ events) spot h =
      let both = and-both (passes event) (pass events) h in
      ap (λ (s : Spot). fold (after name) s events) (passes_spot event spot both.0) ∙ pass_spot events spot both.1

  pass_both : (a b : List Event) → pass a ≡ true → pass b ≡ true → pass (a ++ b) ≡ true
  pass_both a b h w = list_all-append passes a b ∙ and-of (pass a) (pass b) h w

  pass_front : (a b : List Event) → pass (a ++ b) ≡ true → pass a ≡ true
  pass_front a b h = (and-both (pass a) (pass b) (sym (list_all-append passes a b) ∙ h)).0

  looks_passes : (faulty same looks : Bool) → (faulty || looks) ≡ true → (faulty || (not same || looks)) ≡ true
  looks_passes true same looks h = refl
  looks_passes false true looks h = h
  looks_passes false false looks h = refl

  keeps_pass : (events : List Event) → keeps_files events ≡ true → pass events ≡ true
  keeps_pass [] h = refl
  keeps_pass (event ∷ events) h =
      let both = and-both (is_some event.fault || only_looks event.action) (keeps_files events) h in
      and-of (passes event) (pass events) (looks_passes (is_some event.fault) (bytes_eq name event.name) (only_looks event.action) both.0) (keeps_pass events both.1)

  -- what it holds after some events
  led_held : (events : List Event) (text : List ℕ) (old new : Journal) → Leads events text (Some old) (Some new) → held new name ≡ (fold (after name) (spot_of old name) events).held
  led_held events text old new leads =
      let o = leads.told new refl in
      let same : o.0 ≡ old = (let both : Some old ≡ Some o.0 = o.1 in cc) in
      ap (λ (j : Journal). held j name) (sym o.2)
      ∙ ap (λ (s : Spot). s.held) (spot_more events text o.0 name ∙ ap (λ (j : Journal). fold (after name) (spot_of j name) events) same)

  -- it stays, where they do not change it
  passed_held : (events : List Event) (text : List ℕ) (old new : Journal) → Leads events text (Some old) (Some new) → pass events ≡ true → held new name ≡ held old name
  passed_held events text old new leads h = led_held events text old new leads ∙ ap (λ (s : Spot). s.held) (pass_spot events (spot_of old name) h)

  -- and where they change no file
  pub kept_held : (events : List Event) (text : List ℕ) (old new : Journal) → Leads events text (Some old) (Some new) → keeps_files events ≡ true → held new name ≡ held old name
  kept_held events text old new leads h = passed_held events text old new leads (keeps_pass events h)

  -- ---- a delivery of other texts

  abbrev has : List NamedText → Bool
  has texts = list_any (λ text. bytes_eq name text.name) texts

  at_other : (action : Action) (n bytes : List ℕ) → bytes_eq name n ≡ false → passes (record { action = action; name = n; bytes = bytes; fault = None }) ≡ true
  at_other action n bytes e = rw e refl

  pass_did : (action : Action) (n : List ℕ) → bytes_eq name n ≡ false → pass (did action n) ≡ true
  pass_did action n e = and-of _ true (at_other action n [] e) refl

  pass_bytes : (site : Site) (n bytes : List ℕ) → bytes_eq name n ≡ false → pass (each_byte (Write site) n bytes) ≡ true
  pass_bytes site n [] e = refl
  pass_bytes site n (x ∷ bytes) e = and-of _ (pass (each_byte (Write site) n bytes)) (at_other (Write site) n (x ∷ []) e) (pass_bytes site n bytes e)

  pass_put : (site : Site) (text : NamedText) → bytes_eq name text.name ≡ false → pass (put site text) ≡ true
  pass_put site text e =
      let n = text.name in
      let bytes = each_byte (Write site) n text.bytes in
      pass_both (did (Create site) n ++ bytes) (did (Close site) n)
      (pass_both (did (Create site) n) bytes (pass_did (Create site) n e) (pass_bytes site n text.bytes e)) (pass_did (Close site) n e)

  pass_all : (f : NamedText → List Event) → ((text : NamedText) → bytes_eq name text.name ≡ false → pass (f text) ≡ true) → (texts : List NamedText) → has texts ≡ false → pass (flat_map f texts) ≡ true
  pass_all f one [] e = refl
  pass_all f one (text ∷ texts) e =
      let both = or-neither (bytes_eq name text.name) (has texts) e in
      pass_both (f text) (flat_map f texts) (one text both.0) (pass_all f one texts both.1)

  pass_delivery : (manner : Manner) (texts : List NamedText) → has texts ≡ false → pass (delivery manner texts) ≡ true
  pass_delivery InPlace texts e = pass_all (put Place) (pass_put Place) texts e
  pass_delivery Replacing texts e =
      pass_both (flat_map (put Beside) texts) (flat_map moved texts) (pass_all (put Beside) (pass_put Beside) texts e)
      (pass_all moved (λ text other. pass_did Move text.name other) texts e)

  stale_lacks : (texts : List NamedText) (journal : Journal) → has texts ≡ false → has (stale texts journal) ≡ false
  stale_lacks [] journal e = refl
  stale_lacks (text ∷ texts) journal e =
      let both = or-neither (bytes_eq name text.name) (has texts) e in
      one (not (is_held journal text.name text.bytes)) both.0 (stale_lacks texts journal both.1)
    where
      one : (b : Bool) → bytes_eq name text.name ≡ false → has (stale texts journal) ≡ false → has (cond b (text ∷ stale texts journal) (stale texts journal)) ≡ false
      one true other rest = or-of (bytes_eq name text.name) (has (stale texts journal)) other rest
      one false other rest = rest

  chosen_lacks : (texts : List NamedText) (journal : Journal) → has texts ≡ false → has (chosen Replacing texts journal) ≡ false
  chosen_lacks texts journal e = one (share_name texts)
    where
      one : (b : Bool) → has (if b then texts else stale texts journal) ≡ false
      one true = e
      one false = stale_lacks texts journal e

  pass_delivered : (manner : Delivery) (texts : List NamedText) (names : List (List ℕ)) (journal : Journal) → is_among name (written_by manner names) ≡ false →
      (is_among name names ≡ false → has texts ≡ false) → pass (delivered_by manner texts journal) ≡ true
  pass_delivered delivered.Write texts names journal e lacks = pass_delivery InPlace texts (lacks e)
  pass_delivered delivered.Replace texts names journal e lacks = pass_delivery Replacing (chosen Replacing texts journal) (chosen_lacks texts journal (lacks e))
  pass_delivered delivered.Check texts names journal e lacks = refl

  -- ---- the texts of an outcome

  named_lack : (outputs : List WantedOutput) (texts : List (List ℕ)) → is_among name (map (λ wanted. string_bytes wanted.file) outputs) ≡ false → has (with_names outputs texts) ≡ false
  named_lack [] texts e = refl
  named_lack (wanted ∷ outputs) [] e = refl
  named_lack (wanted ∷ outputs) (text ∷ texts) e =
      let both = or-neither (bytes_eq name (string_bytes wanted.file)) (is_among name (map (λ wanted. string_bytes wanted.file) outputs)) e in
      or-of (bytes_eq name (string_bytes wanted.file)) (has (with_names outputs texts)) both.0 (named_lack outputs texts both.1)

  pub texts_lack : (options : Options) (outcome : Outcome) → is_among name (output_files options) ≡ false → has (texts_of options outcome) ≡ false
  texts_lack options outcome e = named_lack options.outputs.items outcome.texts e

  -- ---- a turn

  module _ (files : Files) (options : Options) (inputs : List InputFile) (part : Outcome) (unwritten : is_among name (written_files options) ≡ false) where
    pass_delivers : (journal : Journal) → pass (delivers options (texts_of options part) journal) ≡ true
    pass_delivers journal = pass_delivered options.delivery (texts_of options part) (output_files options) journal unwritten (texts_lack options part)

    -- a whole one
    pub completes_held : (old new : Journal) (status : Status) → Completes files options inputs part (Some old) (Some new) status → held new name ≡ held old name
    completes_held old new status c =
        passed_held (c.events ++ c.made) _ old new c.log
        (pass_both c.events c.made (keeps_pass c.events (keeps-are_reads files options inputs (Some old) c.events c.are_reads)) (ap pass (c.of_old old refl).0 ∙ pass_delivers old))

    pass_reads : (done left : List Event) → done ++ left ≡ reads inputs → pass done ≡ true
    pass_reads done left e = pass_front done left (ap pass e ∙ keeps_pass (reads inputs) (keeps-reads inputs))

    pass_breaks : (before : TreeFacts → List ℕ) (old : Journal) (stop : Stop) (done : List Event) (front : List ℕ) → Breaks files options before inputs part (Some old) stop done front → pass done ≡ true
    pass_breaks before old _ _ _ (no_memory done front first lines begins) = let (left, all) = first-begin first in pass_reads done left all
    pass_breaks before old _ _ _ (in_diagnostics f done front action named first lines more) = let (left, all) = first-begin first in pass_reads done left all
    pass_breaks before old _ _ _ (in_input f tree file done said_of_inputs accepted readable action named to) =
        ap pass to.done_is ∙ pass_both (reads (take to.i inputs)) (begun f.action file.name to.bytes) (keeps_pass (reads (take to.i inputs)) (keeps-reads (take to.i inputs))) (pass_begun action)
      where
        pass_begun : (f.action ≡ Open) ⊎ (f.action ≡ Read) → pass (begun f.action file.name to.bytes) ≡ true
        pass_begun (inl opens) = ap (λ (a : Action). pass (begun a file.name to.bytes)) opens
        pass_begun (inr reads_on) =
            ap (λ (a : Action). pass (begun a file.name to.bytes)) reads_on
            ∙ keeps_pass (did Open file.name ++ each_byte Read file.name to.bytes) (keeps_both (did Open file.name) (each_byte Read file.name to.bytes) refl (keeps_bytes Read file.name to.bytes refl))
    pass_breaks before old _ _ _ (in_delivery f events done are_reads tells) =
        let (left, all, stops) = tells old refl in
        pass_both events done (keeps_pass events (keeps-are_reads files options inputs (Some old) events are_reads)) (pass_front done left (ap pass all ∙ pass_delivers old))

    keeps_event : (stop : Stop) → keeps_files (event_of stop) ≡ true
    keeps_event OutOfMemory = refl
    keeps_event (Failed f) = refl

    keeps_cleared : (manner : Delivery) (action : Action) → keeps_files (cleared_by manner action) ≡ true
    keeps_cleared delivered.Write action = refl
    keeps_cleared delivered.Check action = refl
    keeps_cleared delivered.Replace Open = refl
    keeps_cleared delivered.Replace Miss = refl
    keeps_cleared delivered.Replace Read = refl
    keeps_cleared delivered.Replace (Create site) = refl
    keeps_cleared delivered.Replace (Write site) = refl
    keeps_cleared delivered.Replace (Close site) = refl
    keeps_cleared delivered.Replace Move = refl
    keeps_cleared delivered.Replace Clear = refl
    keeps_cleared delivered.Replace Report = refl

    keeps_clearing : (stop : Stop) → keeps_files (clearing options stop) ≡ true
    keeps_clearing OutOfMemory = refl
    keeps_clearing (Failed f) = keeps_cleared options.delivery f.action

    -- or one that was broken off
    pub broken_held : (before : TreeFacts → List ℕ) (old new : Journal) (status : Status) → Broken files options before inputs part (Some old) (Some new) status → held new name ≡ held old name
    broken_held before old new status b =
        passed_held (b.done ++ event_of b.stop ++ clearing options b.stop ++ reported b.report) _ old new b.log
        (pass_both (b.done ++ event_of b.stop ++ clearing options b.stop) (reported b.report)
        (pass_both (b.done ++ event_of b.stop) (clearing options b.stop)
        (pass_both b.done (event_of b.stop) (pass_breaks before old b.stop b.done b.front b.breaks) (keeps_pass (event_of b.stop) (keeps_event b.stop)))
        (keeps_pass (clearing options b.stop) (keeps_clearing b.stop)))
        (keeps_pass (reported b.report) (keeps_reported b.report)))

  -- ---- what a whole delivery makes of a file

  last_of_lacks : (texts : List NamedText) (there : Option (List ℕ)) → has texts ≡ false → last_of name texts there ≡ there
  last_of_lacks [] there e = refl
  last_of_lacks (text ∷ texts) there e =
      let both = or-neither (bytes_eq name text.name) (has texts) e in
      ap (λ (b : Bool). last_of name texts (if b then Some text.bytes else there)) both.0 ∙ last_of_lacks texts there both.1

  -- the text that the file holds
  is_held_text : (found : Option (List ℕ)) (bytes : List ℕ) → option_map_or (λ there. bytes_eq there bytes) found false ≡ true → found ≡ Some bytes
  is_held_text None bytes e = absurd (let clash : false ≡ true = e in cc)
  is_held_text (Some there) bytes e = ap (λ (b : List ℕ). Some b) ((bytes_eq-Decides there bytes).0 e)

  -- a text that its file holds need not be written
  stale_last : (texts : List NamedText) (there : Option (List ℕ)) (journal : Journal) → there ≡ held journal name → share_name texts ≡ false → last_of name (stale texts journal) there ≡ last_of name texts there
  stale_last [] there journal is apart = refl
  stale_last (text ∷ texts) there journal is apart =
      let both = or-neither (list_any (λ other. bytes_eq text.name other.name) texts) (share_name texts) apart in
      by (bytes_eq name text.name) refl (is_held journal text.name text.bytes) refl both.0 (stale_last texts there journal is both.1)
    where
      by : (same : Bool) → bytes_eq name text.name ≡ same → (found : Bool) → is_held journal text.name text.bytes ≡ found → list_any (λ other. bytes_eq text.name other.name) texts ≡ false →
          last_of name (stale texts journal) there ≡ last_of name texts there →
          last_of name (cond (not found) (text ∷ stale texts journal) (stale texts journal)) there ≡ last_of name texts (if bytes_eq name text.name then Some text.bytes else there)
      by true e found f others rest =
          let same : name ≡ text.name = (bytes_eq-Decides name text.name).0 e in
          let none : has texts ≡ false = subst (λ (n : List ℕ). list_any (λ other. bytes_eq n other.name) texts ≡ false) (sym same) others in
          own found f none ∙ sym (ap (λ (b : Bool). last_of name texts (if b then Some text.bytes else there)) e ∙ last_of_lacks texts (Some text.bytes) none)
        where
          own : (found : Bool) → is_held journal text.name text.bytes ≡ found → has texts ≡ false → last_of name (cond (not found) (text ∷ stale texts journal) (stale texts journal)) there ≡ Some text.bytes
          own false f none = ap (λ (b : Bool). last_of name (stale texts journal) (if b then Some text.bytes else there)) e ∙ last_of_lacks (stale texts journal) (Some text.bytes) (stale_lacks texts journal none)
          own true f none =
              last_of_lacks (stale texts journal) there (stale_lacks texts journal none) ∙ is ∙ ap (held journal) ((bytes_eq-Decides name text.name).0 e) ∙ is_held_text (held journal text.name) text.bytes f
      by false e false f others rest =
          ap (λ (b : Bool). last_of name (stale texts journal) (if b then Some text.bytes else there)) e ∙ rest ∙ sym (ap (λ (b : Bool). last_of name texts (if b then Some text.bytes else there)) e)
      by false e true f others rest = rest ∙ sym (ap (λ (b : Bool). last_of name texts (if b then Some text.bytes else there)) e)

  chosen_last : (texts : List NamedText) (journal : Journal) → last_of name (chosen Replacing texts journal) (held journal name) ≡ last_of name texts (held journal name)
  chosen_last texts journal = one (share_name texts) refl
    where
      one : (b : Bool) → share_name texts ≡ b → last_of name (if b then texts else stale texts journal) (held journal name) ≡ last_of name texts (held journal name)
      one true e = refl
      one false e = stale_last texts (held journal name) journal refl e

  delivered_last : (manner : Delivery) (texts : List NamedText) (names : List (List ℕ)) (journal : Journal) → is_among name (written_by manner names) ≡ true →
      (fold (after name) (spot_of journal name) (delivered_by manner texts journal)).held ≡ last_of name texts (held journal name)
  delivered_last delivered.Write texts names journal e = delivery_held name InPlace texts (spot_of journal name)
  delivered_last delivered.Replace texts names journal e = delivery_held name Replacing (chosen Replacing texts journal) (spot_of journal name) ∙ chosen_last texts journal
  delivered_last delivered.Check texts names journal e = absurd (let clash : false ≡ true = e in cc)

  -- behind a whole turn a file that it writes holds its text
  pub completes_last : (files : Files) (options : Options) (inputs : List InputFile) (part : Outcome) (old new : Journal) (status : Status) → is_among name (written_files options) ≡ true →
      Completes files options inputs part (Some old) (Some new) status → held new name ≡ last_of name (texts_of options part) (held old name)
  completes_last files options inputs part old new status written c =
      let spot = spot_of old name in
      let quiet = pass_spot c.events spot (keeps_pass c.events (keeps-are_reads files options inputs (Some old) c.events c.are_reads)) in
      led_held (c.events ++ c.made) _ old new c.log
      ∙ ap (λ (s : Spot). s.held) (fold-append (after name) spot c.events c.made ∙ ap (λ (s : Spot). fold (after name) s c.made) quiet)
      ∙ ap (λ (made : List Event). (fold (after name) spot made).held) (c.of_old old refl).0
      ∙ delivered_last options.delivery (texts_of options part) (output_files options) old written
