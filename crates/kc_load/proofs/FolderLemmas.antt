-- What a folder tells, from one state of it to a later one.
use Rattle.std.proofs.Common.{List, None, Option, Some, [], ap, append-nil, refl, subst, sym, ℕ, ◌++◌, ◌∙◌, ◌≡◌}
use Rattle.kc_load.specs.{Folder.{AnswersAs, FolderFiles, FolderState, Leads, files_told}, Steps.{State, Visits, file, no_file, no_text, not_new}}
use Rattle.kc_language.specs.Files.{path_of}

-- a state with these failures more
abbrev pub failed_more : FolderState → List (List ℕ) → FolderState
failed_more state failed = record state { failed = state.failed ++ failed }

failed_no_more : (state : FolderState) → state ≡ failed_more state []
failed_no_more state = ap (λ (l : List (List ℕ)). record { files = state.files; failed = l }) (sym (append-nil state.failed))

-- nothing happened
pub leads_nothing : (state : Option FolderState) → Leads [] state state
leads_nothing state = record { told = λ after is. (after, is, failed_no_more after) }

-- nothing failed, and then these did
pub leads_on : (old middle new : Option FolderState) (failed : List (List ℕ)) → Leads [] old middle → Leads failed middle new → Leads failed old new
leads_on old middle new failed first second = record { told = told }
  where
    told : (after : FolderState) → new ≡ Some after → (before : FolderState) × (old ≡ Some before) × (after ≡ failed_more before failed)
    told after is =
        let (between, there, after_is) = second.told after is in
        let (before, here, between_is) = first.told between there in
        (before, here, after_is ∙ ap (λ (s : FolderState). failed_more s failed) (between_is ∙ sym (failed_no_more before)))

-- these files are told, or none
abbrev pub AreTold : FolderFiles → Option FolderState → Type 0
AreTold None state = Unit {0}
AreTold (Some files) state = files_told state ≡ Some files

pub are_told : (state : Option FolderState) → AreTold (files_told state) state
are_told None = tt
are_told (Some s) = refl

some_told : (files : List ℕ → Option (List ℕ)) (state : Option FolderState) → files_told state ≡ Some files → (s : FolderState) × (state ≡ Some s)
some_told files None e = absurd cc
some_told files (Some s) e = (s, refl)

-- what is told was told before
pub told_before : (folder_files : FolderFiles) (old new : Option FolderState) (failed : List (List ℕ)) → Leads failed old new → AreTold folder_files new → AreTold folder_files old
told_before None old new failed leads told = tt
told_before (Some files) old new failed leads told =
    let (after, is) = some_told files new told in
    let (before, was, after_is) = leads.told after is in
    ap files_told was ∙ ap (λ (s : FolderState). Some s.files) (sym after_is) ∙ ap files_told (sym is) ∙ told

answers_told : (folder_files : FolderFiles) (state : Option FolderState) → AreTold folder_files state → (path : List ℕ) (found : Option (List ℕ)) → AnswersAs (files_told state) path found → AnswersAs folder_files path found
answers_told None state told path found answer = tt
answers_told (Some files) state told path found answer = subst (λ (f : FolderFiles). AnswersAs f path found) told answer

-- the turn of a name, as these files tell it
pub visits_told : (folder_files : FolderFiles) (state : Option FolderState) → AreTold folder_files state → (dir name : List ℕ) (old new : State) → Visits (files_told state) dir name old new →
    Visits folder_files dir name old new
visits_told folder_files state told dir name old new (no_text not_text same) = no_text not_text same
visits_told folder_files state told dir name old new (not_new there same) = not_new there same
visits_told folder_files state told dir name old new (no_file due answer asks) = no_file due (answers_told folder_files state told (path_of dir name) None answer) asks
visits_told folder_files state told dir name old new (file middle bytes due answer asks takes) =
    file middle bytes due (answers_told folder_files state told (path_of dir name) (Some bytes) answer) asks takes
