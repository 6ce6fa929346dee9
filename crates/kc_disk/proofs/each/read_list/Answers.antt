-- A list that is not there or is no UTF-8 cannot be read.
use Rattle.std.proofs.Common.{List, ℕ, [], ◌∷◌, Option, None, Some, Err, Vec, Global, subst}
use Rattle.std.specs.Prelude.{option_map}
use Rattle.std.specs.Str.{IsUtf8}
use Rattle.kc_load.specs.Folder.{AnswersAs, FolderState, Leads, files_told}
use Rattle.kc_load.specs.declared.fault.LoadFault.{LoadFault}
use Rattle.kc_load.specs.declared.fault.LoadFault.TheVariants.{CannotRead, Memory}
use Rattle.kc_words.specs.Refusals.{IsListOf}
use Rattle.kc_disk.specs.Program.{HasNoList, absent, failing, no_text}
use Rattle.kc_disk.specs.EachSteps.{IsUnreadable, ReadsList}
use Rattle.kc_disk.proofs.each.read_list.Goals as goal

not_read : (list : List ℕ) (fault : LoadFault) (old new : Option FolderState) → HasNoList list old new → IsUnreadable list fault → ReadsList list (Err fault) old new
not_read list (CannotRead name) old new none is = (none, is)
not_read list Memory old new none is = by none
  where
    by : HasNoList list old new → (failed : List (List ℕ)) × Leads failed old new
    by (failing leads) = (list ∷ [], leads)
    by (absent leads none) = ([], leads)
    by (no_text bytes leads some un) = ([], leads)

pub returns-in-Ok-Some : goal.returns-in-Ok-Some
returns-in-Ok-Some g c =
    let found : AnswersAs (files_told (g.F.Folder.state c.read.new.self)) c.args.list.now (Some c.in-Ok-Some.bytes.items) =
    subst (λ (f : Option (Vec ℕ Global)). AnswersAs (files_told (g.F.Folder.state c.read.new.self)) c.args.list.now (option_map (λ (b : Vec ℕ Global). b.items) f)) c.in-Ok-Some.field-0-is c.in-Ok-Some.ensures.answer in
    let no_list : IsListOf c.deref.result.now None = subst (IsListOf c.deref.result.now) c.in-None.is c.in_ok-names-in-Ok-Some.ensures in
    not_read c.args.list.now c.unreadable.result _ _ (no_text c.in-Ok-Some.bytes.items c.in-Ok-Some.ensures.leads found (subst (λ (l : List ℕ). IsUtf8 l → ⊥) c.deref.ensures.value no_list)) c.unreadable.ensures
