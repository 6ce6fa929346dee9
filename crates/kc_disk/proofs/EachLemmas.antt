-- What a folder told stays so where it still tells, and how the steps of a run for many configurations make one.
use Rattle.std.proofs.Common.{◌≡◌, ℕ, List, [], ◌++◌, length, refl, ap, sym, subst, ◌∙◌, append-nil, Option, Some, None, Ok, Err, String, Vec, Global, map, string_bytes}
use Rattle.kc_io.specs.Log.{Log}
use Rattle.kc_conf.proofs.FolderLemmas.{runs_each_over}
use Rattle.kc_conf.proofs.HowLemmas.{how_each_over}
use Rattle.kc_conf.specs.Many.{AreRootedAt}
use Rattle.kc_conf.specs.declared.reply.Asked.{Asked}
use Rattle.kc_outcome.specs.Outcome.{Options}
use Rattle.kc_language.specs.Expansion.{Files}
use Rattle.kc_load.specs.Folder.{AnswersAs, AreFilesOf, FolderState, Leads, files_told}
use Rattle.kc_load.specs.Loading.{ExpandsAlike}
use Rattle.kc_load.specs.declared.fault.LoadFault.{LoadFault}
use Rattle.kc_load.specs.declared.fault.LoadFault.TheVariants.{CannotRead, Memory}
use Rattle.kc_words.specs.CommandLine.{AreApart, IsClash}
use Rattle.kc_words.specs.declared.each.Each.{Each}
use Rattle.kc_words.specs.declared.usage.UsageError.{UsageError}
use Rattle.kc_conf.specs.Faults.{load_line}
use Rattle.kc_io.specs.Log.{TriesToSay}
use Rattle.kc_outcome.specs.declared.outcome.Status.{Status}
use Rattle.kc_outcome.specs.declared.outcome.Status.TheVariants as answered
use Rattle.kc_disk.specs.Program.{AreListed, AreNames, AreReady, FolderTurns, GivesOptions, GivesPieced, TakesTurns, clashing, including, loaded, no_memory, no_pieces_for_each, ran_each, unlisted, unloaded, unreadable}
use Rattle.kc_disk.specs.PartsOfProgram.{SaysClash}
use Rattle.kc_disk.specs.EachSteps.{AreLoaded, FindsNames, RunsLoaded, RunsNamed, as_named, included, not_loaded, ran, with_included}
use Rattle.kc_disk.proofs.KeptLemmas.{rooted_pieces}

-- behind reads of which none failed
pub quiet-first : (failed : List (List ℕ)) (old mid new : Option FolderState) → Leads [] old mid → Leads failed mid new → Leads failed old new
quiet-first failed old mid new h w = record {
  told = λ after e.
      let m = w.told after e in
      let o = h.told m.0 m.1 in
      (o.0, o.1, m.2 ∙ ap (λ (s : FolderState). record s { failed = s.failed ++ failed }) o.2 ∙ ap (λ (l : List (List ℕ)). record o.0 { failed = l ++ failed }) (append-nil o.0.failed));
}

-- what a path holds stays, where the folder still tells
pub answers-later : (failed : List (List ℕ)) (old new : Option FolderState) (path : List ℕ) (found : Option (List ℕ)) → Leads failed old new →
    AnswersAs (files_told old) path found → AnswersAs (files_told new) path found
answers-later failed old None path found h are = tt
answers-later failed old (Some after) path found h are =
    let o = h.told after refl in
    subst (λ (s : FolderState). s.files path ≡ found) (sym o.2) (subst (λ (s : Option FolderState). AnswersAs (files_told s) path found) o.1 are)

listed-later : (failed : List (List ℕ)) (old new : Option FolderState) (list : Option (String Global)) (names : List (List ℕ)) → Leads failed old new →
    AreListed old list names → AreListed new list names
listed-later failed old new None names h are = are
listed-later failed old new (Some file) names h (bytes, told, utf8, are) = (bytes, answers-later failed old new (string_bytes file) (Some bytes) h told, utf8, are)

pub names-later : (each : Each) (failed : List (List ℕ)) (old new : Option FolderState) (names : List (List ℕ)) → Leads failed old new → AreNames each old names → AreNames each new names
names-later each failed old new names h are = record { more = are.more; listed_are = listed-later failed old new each.list are.more h are.listed_are; all = are.all }

-- ---- the whole

module _ (asked : Option Asked) (each : Each) (old : Option FolderState) where
  -- the list could not be read
  pub not-listed : (fault : LoadFault) (new : Option FolderState) (before after : Log) → FindsNames each (Err fault) old new → TriesToSay (load_line fault) before after →
      FolderTurns asked each old new before after answered.Faulted
  not-listed (CannotRead name) new before after (file, is, none, named) says = unlisted _ (rw named (unreadable file is none)) says refl
  not-listed Memory new before after (failed, leads) says = unlisted _ (no_memory failed leads) says refl

  -- the names are known
  module _ (names : Vec (String Global) Global) (mid : Option FolderState) (found : FindsNames each (Ok names) old mid) where
    pub not-apart : (usage : UsageError) (before after : Log) (status : Status) → asked ≡ None → IsClash each (map string_bytes names.items) usage → SaysClash usage status before after →
        FolderTurns asked each old mid before after status
    not-apart usage before after status runs clash says = clashing _ usage runs found.1 found.0 clash says

    ready : (files : Files) (new : Option FolderState) → (asked ≡ None → AreApart each (map string_bytes names.items)) → AreLoaded each mid new files →
        AreReady asked each old new (map string_bytes names.items) files
    ready files new apart are = record {
      names_are = names-later each [] mid new _ are.leads found.1;
      apart = apart;
      files_are = are.files_are;
      leads = quiet-first [] old mid new found.0 are.leads;
    }

    pub named-runs : (new : Option FolderState) (before after : Log) (status : Status) → (asked ≡ None → AreApart each (map string_bytes names.items)) →
        RunsNamed asked each (map string_bytes names.items) mid new before after status → FolderTurns asked each old new before after status
    named-runs new before after status apart (not_loaded fault un says is) =
        unloaded _ fault (names-later each _ mid new _ un.leads found.1) apart (record { cause = un.cause; leads = quiet-first _ old mid new found.0 un.leads }) says is
    named-runs new before after status apart (included files is are runs) = including _ files is (ready files new apart are) runs
    named-runs new before after status apart (ran files is are runs) = loaded _ files is (ready files new apart are) runs

-- ---- files that were loaded stand for those of the folder

turns-over : (asked : Option Asked) (root : List ℕ) (map files : Files) → ExpandsAlike root map files → (options : ℕ → Options → Type 0) (count : ℕ) (old new : Log) (status : Status) →
    AreRootedAt root options → TakesTurns asked map root options count old new status → TakesTurns asked files root options count old new status
turns-over None root map files alike options count old new status rooted turns = runs_each_over root map files alike options count old new status rooted turns
turns-over (Some asked) root map files alike options count old new status rooted turns = how_each_over root map files alike asked options count old new status rooted turns

module _ (asked : Option Asked) (each : Each) (names : List (List ℕ)) (folder folder_after : Option FolderState) (old new : Log) (status : Status) (map files : Files)
    (are : AreLoaded each folder folder_after files) (alike : ExpandsAlike (string_bytes each.options.kconfig) map files) where
  abbrev root : List ℕ
  root = string_bytes each.options.kconfig

  pub named-loaded : RunsLoaded asked map each names old new status → RunsNamed asked each names folder folder_after old new status
  named-loaded (with_included is (no_pieces_for_each e)) = included files is are (no_pieces_for_each e)
  named-loaded (with_included is (ran_each turns)) =
      included files is are (ran_each (turns-over asked root map files alike (GivesPieced each names) (length names) None None status (rooted_pieces each names) turns))
  named-loaded (as_named is turns) = ran files is are (turns-over asked root map files alike (GivesOptions each names) (length names) old new status (λ i o given. given.kconfig) turns)
