use Rattle.std.proofs.{Common.{List, [], ap, arith, length, map, sym, take, ℕ, ◌++◌, ◌+◌, ◌<◌, ◌∙◌, ◌∷◌, ◌≡◌}, lemmas.List.{map_more, take_all}}
use Rattle.kc_language.specs.Needs.{needs_in}
use Rattle.kc_order.proofs.search.need_counts.Goals as goal

-- one more row is counted
one_more : (rows : List (List ℕ)) (i : ℕ) (counts row : List ℕ) → i < length rows → counts ≡ map length (take i rows) → row ≡ needs_in rows i →
    counts ++ length row ∷ [] ≡ map length (take (i + 1) rows)
one_more rows i counts row there before is =
    ap (λ (x : List ℕ). x ++ length row ∷ []) before ∙ ap (λ (x : List ℕ). map length (take i rows) ++ length x ∷ []) is
    ∙ sym (map_more length rows i [] there)

pub loop-row-init : goal.loop-row-init
loop-row-init c = c.in_ok-counts.ensures.items

pub loop-row-preserved : goal.loop-row-preserved
loop-row-preserved c =
    rw c.in_ok-push.ensures.items
    (one_more c.args.rows.now c.loop-row.row c.loop-row.counts.items c.row.result.now (omega arith) c.loop-row.invariant c.row.ensures)

pub returns : goal.returns
returns c = c.loop-row.invariant ∙ ap (map length) (take_all c.loop-row.row c.args.rows.now (omega arith))
