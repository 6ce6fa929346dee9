-- The ends of a file, and what is known of the long lines in them.
use Rattle.std.proofs.{Common.{List, ap, arith, drop, get_or, length, length-drop, refl, subst, sym, take, ℕ, ◌+◌, ◌-◌, ◌∙◌, ◌≡◌, ◌≤◌}, lemmas.List.{drop-drop, take_rest}}
use Rattle.kc_text.specs.{LongLines.{AreLong, IsEndOf, IsLong, IsLongIn, last_bytes}, declared.long_lines.LongLine.LongLine}

-- an end is no longer than the file
pub end_fits : (file after : List ℕ) → IsEndOf file after → length after ≤ length file
end_fits file after e = omega (arith, ap length e, length-drop (length file - length after) file)

-- the end of an end
pub last_of_last : (file after : List ℕ) (n : ℕ) → IsEndOf file after → n ≤ length after → last_bytes n after ≡ last_bytes n file
last_of_last file after n e fits =
    let within = end_fits file after e in
    let there : (length file - length after) + (length after - n) ≡ length file - n = omega (arith, within, fits) in
    ap (drop (length after - n)) e ∙ drop-drop (length after - n) (length file - length after) file ∙ ap (λ k. drop k file) there

pub end_same : (file : List ℕ) → IsEndOf file file
end_same file = let none : length file - length file ≡ 0 = omega arith in rw none refl

pub end_of_end : (file mid after : List ℕ) → IsEndOf file mid → IsEndOf mid after → IsEndOf file after
end_of_end file mid after d e = e ∙ last_of_last file mid (length after) d (end_fits mid after e)

-- what is known of the lines of a file is known of those of its end
pub long_in_end : (file after : List ℕ) (ls : List LongLine) → IsEndOf file after → AreLong file ls → AreLong after ls
long_in_end file after ls e known k d lt fits =
    let line = get_or ls k d in
    subst (λ r. IsLong r line) (sym (last_of_last file after line.before e fits)) (known k d lt (omega (arith, fits, end_fits file after e)))

-- a line that is known where it begins is known in the file
pub long_from_end : (file rest : List ℕ) (l : LongLine) → IsEndOf file rest → l.before ≡ length rest → IsLong rest l → IsLongIn file l
long_from_end file rest l e at known fits = subst (λ r. IsLong r l) (e ∙ ap (λ n. last_bytes n file) (sym at)) known

-- the line that begins here
pub long_here : (rest : List ℕ) (l : LongLine) → l.before ≡ length rest → IsLongIn rest l → IsLong rest l
long_here rest l at known =
    subst (λ r. IsLong r l) (ap (λ n. last_bytes n rest) at ∙ sym (end_same rest)) (known (omega (arith, at)))

-- what stands behind a place is an end
pub end_behind : (rest : List ℕ) (n : ℕ) → n ≤ length rest → IsEndOf rest (take (length rest - n) (drop n rest))
end_behind rest n fits =
    let there : length rest - length (drop n rest) ≡ n = omega (arith, length-drop n rest) in
    rw (take_rest rest n) (ap (λ k. drop k rest) (sym there))
