-- Of a flat tree the first file is all that is read, and it is enough.
use Rattle.std.proofs.{Common.{Bool, Contains, Err, IsUtf8, List, MatchOption, None, Ok, Option, Result, Some, [], ap, arith, cond, false, refl, subst, sym, true, ℕ, ◌∙◌, ◌∷◌, ◌≡◌}, lemmas.{List.Elements.All-nil, Str.is_utf8-from_IsUtf8}}
use Rattle.std.specs.{Prelude.{IfOk, if◌then◌else◌, ◌&&◌}, Str.is_utf8}
use Rattle.kc_language.specs.{Expansion.{Files, bytes_in}, Expressions.same_name, Files.path_of}
use Rattle.kc_read.specs.Files.{FileTable, Puts, files_in}
use Rattle.kc_read.proofs.FileLemmas.{same_name_eq}
use Rattle.kc_load.specs.{Asking.{asked, ended, tree_of}, Folder.{Answer, AnswersAs, FolderFiles, IsNext, is_read}, Loading.{LoadsFlat, Suffices}, declared.fault.LoadFault.LoadFault}

-- the one file that was found is that of the folder
module _ (held : List ℕ → Option (List ℕ)) (dir first : List ℕ) (found : Option (List ℕ)) (text : IsUtf8 first) (answer : held (path_of dir first) ≡ found) where
  alone : (name : List ℕ) → cond (same_name name first) found None ≡ (if is_read first true name then held (path_of dir name) else None)
  alone name = by (same_name name first) refl
    where
      is_text : same_name name first ≡ true → is_utf8 name ≡ true
      is_text e = ap is_utf8 (same_name_eq name first e) ∙ is_utf8-from_IsUtf8 first text

      neither : (a : Bool) → (a && false) ≡ false
      neither true = refl
      neither false = refl

      by : (b : Bool) → same_name name first ≡ b → cond b found None ≡ cond (is_utf8 name && b) (held (path_of dir name)) None
      by true e = sym answer ∙ ap (λ n. held (path_of dir n)) (sym (same_name_eq name first e)) ∙ ap (λ b. cond (b && true) (held (path_of dir name)) None) (sym (is_text e))
      by false e = ap (λ b. cond b (held (path_of dir name)) None) (sym (neither (is_utf8 name)))

pub flat_enough : (folder_files : FolderFiles) (dir first : List ℕ) (files : Files) → IsUtf8 first → LoadsFlat folder_files dir first files → Suffices folder_files dir first true files
flat_enough folder_files dir first files text l =
    (files, record { flat_is = l.flat_is; bytes_are = by folder_files l.answer }, record { gives = λ r. (λ x. x, λ x. x); holds = λ log d i x within. refl })
  where
    by : (o : FolderFiles) → AnswersAs o (path_of dir first) l.found → MatchOption o (Unit {0}) (λ held. files.bytes ≡ (λ name. if is_read first true name then held (path_of dir name) else None))
    by None a = tt
    by (Some held) a = λ j name. (l.held name ∙ alone held dir first l.found text a name) j

-- it comes first
pub first_is_next : (folder_files : FolderFiles) (dir first : List ℕ) → IsUtf8 first → IsNext folder_files dir first first
first_is_next folder_files dir first text = record {
  asked = [];
  behind = [];
  are_asked = record {
    in_order = asked [] [] [] [] [] first (text, λ c. none c) refl (ended (first ∷ [])) (ended (first ∷ []));
    answers = All-nil (λ (a : Answer). AnswersAs folder_files (path_of dir a.name) a.bytes);
  };
  within = omega arith;
}
  where
    none : Contains [] first → ⊥
    none c = absurd (omega (arith, c.1))

-- what was loaded of a tree that is not flat
pub tree_enough : (folder_files : FolderFiles) (dir first : List ℕ) (r : Result FileTable LoadFault) → IfOk r (λ m. m.flat ≡ false) →
    IfOk r (λ m. Suffices folder_files dir first false (tree_of (files_in m).bytes)) → IfOk r (λ m. Suffices folder_files dir first false (files_in m))
tree_enough folder_files dir first (Ok m) flat h =
    let same : tree_of (files_in m).bytes ≡ files_in m = λ j. record { bytes = bytes_in m.entries; flat = sym flat j } in
    subst (Suffices folder_files dir first false) same h
tree_enough folder_files dir first (Err e) flat h = h

pub flat_enough_if : (folder_files : FolderFiles) (dir first : List ℕ) (r : Result FileTable LoadFault) → IsUtf8 first → IfOk r (λ m. LoadsFlat folder_files dir first (files_in m)) →
    IfOk r (λ m. Suffices folder_files dir first true (files_in m))
flat_enough_if folder_files dir first (Ok m) text h = flat_enough folder_files dir first (files_in m) text h
flat_enough_if folder_files dir first (Err e) text h = h

-- the map that the first file was put into, and the one without it
pub loads_found : (folder_files : FolderFiles) (dir first name bytes : List ℕ) (empty m : FileTable) → name ≡ first → empty ≡ record { entries = []; flat = true } →
    Puts (files_in empty) (files_in m) name bytes → AnswersAs folder_files (path_of dir first) (Some bytes) → LoadsFlat folder_files dir first (files_in m)
loads_found folder_files dir first name bytes empty m same is puts answer = record {
  flat_is = puts.flat_is ∙ ap (λ (t : FileTable). t.flat) is;
  found = Some bytes;
  answer = answer;
  held = λ other. puts.bytes_are other ∙ (λ j. cond (same_name other (same j)) (Some bytes) (bytes_in (is j).entries other));
}

pub loads_none : (folder_files : FolderFiles) (dir first : List ℕ) (m : FileTable) → m ≡ record { entries = []; flat = true } → AnswersAs folder_files (path_of dir first) None →
    LoadsFlat folder_files dir first (files_in m)
loads_none folder_files dir first m is answer = record {
  flat_is = ap (λ (t : FileTable). t.flat) is;
  found = None;
  answer = answer;
  held = λ other. (λ j. bytes_in (is j).entries other) ∙ by (same_name other first);
}
  where
    by : (b : Bool) → ◌≡◌ {A = Option (List ℕ)} None (cond b None None)
    by true = refl
    by false = refl
