-- Configurations whose names are apart touch no file of one another.
use Rattle.std.proofs.Common.{◌≡◌, ℕ, Bool, true, false, List, [], ◌∷◌, ◌++◌, length, map, refl, sym, ap, ◌∙◌, Some, Result, Ok, Err, string_bytes}
use Rattle.std.specs.Prelude.{slice_index_or}
use Rattle.kc_io.specs.Delivery.{LookingKeeps}
use Rattle.kc_io.specs.Log.{Journal, Leads, Log, held, reported, with_events}
use Rattle.kc_io.specs.declared.device.Fault.{Fault}
use Rattle.kc_words.specs.CommandLine.{AreApart, reads, writes, AreOptionsFor, filled}
use Rattle.kc_words.specs.declared.each.Each.{Each}
use Rattle.kc_words.specs.declared.usage.UsageError.{UsageError}
use Rattle.kc_words.specs.declared.usage.UsageError.TheVariants as usage
use Rattle.kc_outcome.specs.Outcome.{Options, input_files}
use Rattle.kc_outcome.specs.declared.outcome.Output.{Output}
use Rattle.kc_outcome.specs.declared.outcome.WantedOutput.{WantedOutput}
use Rattle.kc_conf.specs.Many.{AreSeparate, is_among, output_files}
use Rattle.kc_io.specs.Log.{TriesToSay}
use Rattle.kc_conf.proofs.AmongLemmas.{each_leaves_its_part_law, written_output}
use Rattle.kc_disk.specs.Program.{NamedStandApart, ends_before, includes, including, leaves, GivesOptions, clashing, loaded, unlisted, unloaded, SaysUsage}

-- ---- the names of the files

seconds : {A : Type 0} (f : A → Output × List ℕ) (xs : List A) → map (λ x. (f x).1) xs ≡ map (λ (o : Output × List ℕ). o.1) (map f xs)
seconds f [] = refl
seconds f (x ∷ xs) = ap (λ t. (f x).1 ∷ t) (seconds f xs)

module _ (each : Each) (config : List ℕ) (one : Options) (are : AreOptionsFor each config one) where
  outputs : output_files one ≡ writes each config
  outputs =
      seconds (λ (wanted : WantedOutput). (wanted.kind, string_bytes wanted.file)) one.outputs.items ∙ ap (map (λ (o : Output × List ℕ). o.1)) are.outputs
      ∙ sym (seconds (λ (wanted : WantedOutput). (wanted.kind, filled config (string_bytes wanted.file))) each.options.outputs.items)

  inputs : input_files one ≡ reads each config
  inputs = ap (λ (n : List ℕ). n ∷ map string_bytes one.fragments.items) are.config ∙ ap (λ (l : List (List ℕ)). config ∷ l) are.fragments

not_true : (b : Bool) → (b ≡ true → ⊥) → b ≡ false
not_true true none = absurd (none refl)
not_true false none = refl

-- names that are apart give options whose files are
separate : (each : Each) (names : List (List ℕ)) → AreApart each names → AreSeparate (GivesOptions each names) (length names)
separate each names apart i j one other name small small' differs are are' written =
    let a = slice_index_or names i [] in
    let b = slice_index_or names j [] in
    let here : is_among name (writes each a) ≡ true =
    ap (is_among name) (sym (outputs each a one are)) ∙ written_output name one.delivery (output_files one) written in
    let neither = apart i j name differs (small, here) in (
      ap (is_among name) (inputs each b other are') ∙ not_true (is_among name (reads each b)) (λ is. neither.1 (small', is)),
      ap (is_among name) (outputs each b other are') ∙ not_true (is_among name (writes each b)) (λ is. neither.0 (small', is)),
    )

-- ---- a run that ends before the first turn

some_same : (a b : Journal) → (let one : Log = Some a in one ≡ Some b) → a ≡ b
some_same a b e = cc

module _ (law : LookingKeeps) (old new : Journal) where
  report_keeps : (report : Result (Unit {0}) Fault) (text : List ℕ) → Leads (reported report) text (Some old) (Some new) → (name : List ℕ) → held new name ≡ held old name
  report_keeps report text leads name =
      let o = leads.told new refl in
      ap (λ (j : Journal). held j name) (sym o.2) ∙ quiet report o.0 ∙ ap (λ (j : Journal). held j name) (sym (some_same old o.0 o.1))
    where
      quiet : (report : Result (Unit {0}) Fault) (journal : Journal) → held (with_events (reported report) text journal) name ≡ held journal name
      quiet (Ok u) journal = law name [] text journal refl
      quiet (Err fault) journal = law name (reported (Err fault)) text journal refl

  tries_keep : (text : List ℕ) → TriesToSay text (Some old) (Some new) → (name : List ℕ) → held new name ≡ held old name
  tries_keep text (report, leads) = report_keeps report _ leads

  usage_keeps : (wrong : UsageError) → SaysUsage wrong (Some old) (Some new) → (name : List ℕ) → held new name ≡ held old name
  usage_keeps (usage.Help text) same name = ap (λ (j : Journal). held j name) (some_same new old same)
  usage_keeps usage.Version same name = ap (λ (j : Journal). held j name) (some_same new old same)
  usage_keeps (usage.Bad text) (report, leads) name = report_keeps report _ leads name
  usage_keeps usage.Memory (report, leads) name = report_keeps report _ leads name

-- ---- the whole

pub named_stand_apart_law : LookingKeeps → NamedStandApart
named_stand_apart_law law each folder folder_after before after status (unlisted line is says e) = ends_before (tries_keep law before after line says)
named_stand_apart_law law each folder folder_after before after status (clashing names wrong runs are leads clash says) = ends_before (usage_keeps law before after wrong says.1)
named_stand_apart_law law each folder folder_after before after status (unloaded names fault are apart is says e) = ends_before (tries_keep law before after _ says)
named_stand_apart_law law each folder folder_after before after status (including names files is ready runs) = includes is
named_stand_apart_law law each folder folder_after before after status (loaded names files is ready runs) =
    leaves names files ready.names_are ready.files_are
    (each_leaves_its_part_law (GivesOptions each names) (length names) files (string_bytes each.options.kconfig) before after status (separate each names (ready.apart refl)) runs)
