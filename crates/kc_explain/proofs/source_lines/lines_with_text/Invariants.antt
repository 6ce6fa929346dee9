use Rattle.std.proofs.Common.{◌≡◌, ◌≤◌, ◌+◌, length, map, take}
use Rattle.std.specs.List.{suffix_len}
use Rattle.kc_outcome.specs.Explanations.{without_text}
use Rattle.kc_explain.proofs.source_lines.lines_with_text.Given as goal

-- only lines without text stand from the end on
abbrev pub invariant-loop-end : goal.invariant-loop-end
invariant-loop-end l =
    let own = map (λ x. x.now) l.lines in
    (l.end ≤ length l.lines) × (l.end + suffix_len without_text own ≡ length own + suffix_len without_text (take l.end own))

abbrev pub decreases-loop-end : goal.decreases-loop-end
decreases-loop-end l = l.end
