-- The last mode so far.
use Rattle.std.specs.Option.{option_and_then}
use Rattle.std.specs.Prelude.{option_map}
use Rattle.kc_tree.specs.Layouts.{index_at}
use Rattle.kc_tree.specs.declared.rows.EntryId.{EntryId}
use Rattle.kc_explain.specs.LineViews.{lines_of}
use Rattle.kc_explain.specs.PartViews.{part_view}
use Rattle.kc_explain.specs.PartsOfExplanations.{mode_part}
use Rattle.kc_explain.proofs.PartLemmas.{LastIs}
use Rattle.kc_explain.proofs.parts.innermost_mode.Given as goal

abbrev pub invariant-loop-block : goal.invariant-loop-block
invariant-loop-block l = LastIs (λ (e : EntryId). option_and_then (mode_part (lines_of l.layout)) (index_at l.layout e.0)) l.around l.block-index (option_map part_view l.last)
