use Rattle.std.proofs.Common.{List, ℕ, arith, ap, sym, ◌∙◌, ◌+◌, ◌++◌, drop, map, take}
use Rattle.std.specs.Borrow.{Bor}
use Rattle.std.specs.Option.{option_copied}
use Rattle.std.proofs.lemmas.List.{length-map}
use Rattle.kc_hints.specs.Near.{most_names, near_from}
use Rattle.kc_hints.proofs.NearLemmas.{found_all, near_next}
use Rattle.kc_hints.proofs.near.near_names.Goals as goal

pub returns-then-len-ge-MOST_NAMES : goal.returns-then-len-ge-MOST_NAMES
returns-then-len-ge-MOST_NAMES c =
    let same = length-map c.loop-i.found.items (λ (name : Bor (List ℕ)). name.now) in
    found_all (map (λ (name : Bor (List ℕ)). name.now) c.loop-i.found.items) _ _ (omega (arith, same)) (omega (arith, same)) c.loop-i.invariant.found

pub loop-i-preserved : goal.loop-i-preserved
loop-i-preserved c =
    let tree = c.args.tree.now in
    let told = option_copied c.args.told in
    let asked = c.args.asked.now in
    let found = map (λ (name : Bor (List ℕ)). name.now) c.loop-i.found.items in
    let next = near_next tree told asked c.loop-i.i _ found _ c.name-name.ensures c.in_ok-given.ensures in
    record {
      found = ap (λ l. take most_names (l ++ near_from tree told asked (c.loop-i.i + 1) (drop (c.loop-i.i + 1) tree.names))) c.in_ok-add_if.ensures.is
          ∙ ap (take most_names) (sym next) ∙ c.loop-i.invariant.found;
      few = omega (arith, c.in_ok-add_if.ensures.few);
    }
