-- The folder of a file, by the last `/` of its name.
use Rattle.std.proofs.{Common.{Bool, List, [], ap, arith, cond, false, length, refl, suc, take, zero, ℕ, ◌<◌, ◌∙◌, ◌∷◌, ◌≡◌}, lemmas.{Bool.false_from_ne_true, List.{Elements.All-from_get_or, Folds.{list_any_at, list_any_none}}}}
use Rattle.std.specs.List.{list_any}
use Rattle.bstr.specs.Find.{NoneAfter, Nowhere, Passes, is_byte}
use Rattle.kc_include.specs.Included.{folder_before}

pub folder-none : (name : List ℕ) → Nowhere (Passes (is_byte 47) name) 0 (length name) → folder_before name ≡ []
folder-none [] none = refl
folder-none (b ∷ rest) none =
    let no : list_any (is_byte 47) (b ∷ rest) ≡ false =
    list_any_none (is_byte 47) (b ∷ rest) (All-from_get_or (λ c. is_byte 47 c ≡ false) (b ∷ rest) 0 (λ k lt. false_from_ne_true _ (none k (omega arith) lt))) in
    ap (λ (there : Bool). cond there (b ∷ folder_before rest) []) no

pub folder-there : (name : List ℕ) (last : ℕ) → NoneAfter (Passes (is_byte 47) name) 0 (length name) last → Passes (is_byte 47) name last →
    folder_before name ≡ take (suc last) name
folder-there [] last none here = let high : last < 0 = none.high in absurd (omega arith)
folder-there (b ∷ rest) zero none here =
    ap (λ (there : Bool). cond there (b ∷ folder_before rest) []) (list_any_at (is_byte 47) (b ∷ rest) 0 0 none.high here)
    ∙ ap (λ front. b ∷ front) (folder-none rest (λ k low lt. none.after (suc k) (omega arith) (omega arith)))
folder-there (b ∷ rest) (suc last) none here =
    let high : suc last < length (b ∷ rest) = none.high in
    ap (λ (there : Bool). cond there (b ∷ folder_before rest) []) (list_any_at (is_byte 47) (b ∷ rest) (suc last) 0 high here)
    ∙ ap (λ front. b ∷ front)
    (folder-there rest last (record { low = omega arith; high = omega arith; after = λ k low lt. none.after (suc k) (omega arith) (omega arith) }) here)
