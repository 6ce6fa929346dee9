use Rattle.std.proofs.Common.{◌≡◌, ◌++◌, take}
use Rattle.std.specs.Prelude.{flat_map}
use Rattle.kc_explain.specs.SourceLines.{comment}
use Rattle.kc_explain.proofs.source_lines.add_comments.Given as goal

-- the lines so far are added
abbrev pub invariant-loop-line : goal.invariant-loop-line
invariant-loop-line l = l.text.items ≡ l.fn.text.items ++ flat_map (λ x. comment x.now) (take l.line-index l.lines)
