-- Empty lines that are read.
use Rattle.std.proofs.{Common.{List, ap, append_assoc, arith, sym, take, ℕ, ◌++◌, ◌+◌, ◌-◌, ◌∙◌, ◌≡◌, ◌≤◌}, Math.Seq.take-append_seam, lemmas.List.{length-replicate, replicate-append-replicate}}
use Rattle.std.specs.Prelude.{replicate}
use Rattle.kc_include.specs.Included.{read_as}

pub empty-lines : (lines count : ℕ) (bytes behind : List ℕ) → count ≤ lines →
    read_as lines bytes ≡ take count (replicate count 10 ++ behind) ++ read_as (lines - count) bytes
empty-lines lines count bytes behind few =
    let front : take count (replicate count 10 ++ behind) ≡ replicate count 10 =
    ap (λ k. take k (replicate count 10 ++ behind)) (sym (length-replicate count 10)) ∙ take-append_seam (replicate count 10) behind in
    let all : count + (lines - count) ≡ lines = omega arith in
    ap (λ k. replicate k 10 ++ bytes) (sym all) ∙ ap (λ t. t ++ bytes) (sym (replicate-append-replicate count (lines - count) 10))
    ∙ append_assoc (replicate count 10) (replicate (lines - count) 10) bytes
    ∙ ap (λ t. t ++ read_as (lines - count) bytes) (sym front)
