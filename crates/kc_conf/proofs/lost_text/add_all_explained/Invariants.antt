-- The lines so far were added, each with the explanation of its symbol.
use Rattle.std.proofs.Common.{◌≡◌, ◌++◌, map, take}
use Rattle.std.specs.List.{flat_map}
use Rattle.kc_conf.specs.Lost.{lost_view, with_explanation}
use Rattle.kc_conf.proofs.lost_text.add_all_explained.Given as goal

abbrev pub invariant-loop-value : goal.invariant-loop-value
invariant-loop-value l = l.text.items ≡ l.fn.text.items ++ flat_map (with_explanation l.t l.front) (map lost_view (take l.value-index l.lost))
