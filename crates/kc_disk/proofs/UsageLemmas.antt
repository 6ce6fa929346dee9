-- What is said of a bad command line is whole lines.
use Rattle.std.proofs.Common.{◌≡◌, ℕ, Bool, true, false, List, [], ◌∷◌, ◌++◌, codes, refl, sym, ap, length, ◌-◌, ◌≤◌, arith, ◌∙◌, append-nil, Option, Some, None}
use Rattle.std.specs.Prelude.{if◌then◌else◌, slice_index_or}
use Rattle.std.specs.List.{last_or}
use Rattle.kc_text.specs.PartsOfLines.{ends_line}
use Rattle.kc_language.specs.Lines.{is_whole_lines}
use Rattle.kc_disk.specs.PartsOfProgram.{ended_text}

-- the last of two lists is that of the second, where it has one
last_or-append : {A : Type 0} (o : Option A) (a b : List A) → last_or o (a ++ b) ≡ last_or (last_or o a) b
last_or-append o [] b = refl
last_or-append o (x ∷ a) b = last_or-append (Some x) a b

pub ended-whole : (text : List ℕ) → is_whole_lines (ended_text text) ≡ true
ended-whole text = by (is_whole_lines text) refl
  where
    by : (b : Bool) → is_whole_lines text ≡ b → is_whole_lines (text ++ (if b then [] else codes "\n")) ≡ true
    by true whole = ap is_whole_lines (append-nil text) ∙ whole
    by false whole = ap ends_line (last_or-append None text (codes "\n"))

-- the last byte
last_is : (o : Option ℕ) (b : ℕ) (rest : List ℕ) → last_or o (b ∷ rest) ≡ Some (slice_index_or (b ∷ rest) (length rest) 0)
last_is o b [] = refl
last_is o b (x ∷ rest) = last_is (Some b) x rest

pub whole-last : (bytes : List ℕ) → 1 ≤ length bytes → ends_line (Some (slice_index_or bytes (length bytes - 1) 0)) ≡ is_whole_lines bytes
whole-last [] some = absurd (omega (arith, some))
whole-last (b ∷ rest) some = ap ends_line (ap (λ (n : ℕ). Some (slice_index_or (b ∷ rest) n 0)) (omega arith) ∙ sym (last_is None b rest))
