-- The files that an expansion opens are one list.
use Rattle.std.proofs.Common.{Err, List, Ok, Result, [], ap, refl, sym, ℕ, ◌∙◌, ◌≡◌}
use Rattle.kc_language.specs.Expansion.{AreOpened, Expands, Files, ReadSoFar, Refused}
use Rattle.kc_read.specs.OpenedFiles.{OpenedAreOneList}
use Rattle.kc_read.proofs.{ExpansionThere.has_one_expansion, OneExpansion.one_expansion_law}

-- those of the one list that the root file gives
pub are_opened : (files : Files) (root : List ℕ) (log : ReadSoFar) (names : List (List ℕ)) → Expands files root (Ok log) → names ≡ log.opened → AreOpened files root names
are_opened files root log names expands are other expands_other =
    let same : Ok log ≡ Ok other = one_expansion_law files root (Ok log) (Ok other) expands expands_other in
    let logs : log ≡ other = cc in
    are ∙ ap (λ l. l.opened) logs

pub opened_are_one_list : OpenedAreOneList
opened_are_one_list files root = let (r, expands, only) = has_one_expansion files root in by r expands
  where
    by : (r : Result ReadSoFar Refused) → Expands files root r → (names : List (List ℕ)) × AreOpened files root names
        × ((log : ReadSoFar) (others : List (List ℕ)) → Expands files root (Ok log) → AreOpened files root others → others ≡ names)
    by (Ok log) expands =
        let are : AreOpened files root log.opened = are_opened files root log log.opened expands refl in
        (log.opened, are, λ other others given others_are. others_are other given ∙ sym (are other given))
    by (Err e) expands = ([], λ log given. absurd (clash log given), λ log others given are. absurd (clash log given))
      where
        clash : (log : ReadSoFar) → Expands files root (Ok log) → ⊥
        clash log given = let same : Err e ≡ Ok log = one_expansion_law files root (Err e) (Ok log) expands given in cc
