-- What the lines so far ask was added.
use Rattle.std.proofs.Common.{◌≡◌, ◌++◌, map, take}
use Rattle.kc_entries.specs.Entries.{own_lines}
use Rattle.kc_explain.specs.PartViews.{asked_of, part_view}
use Rattle.kc_explain.specs.PartsOfExplanations.{read_by}
use Rattle.kc_explain.proofs.parts.add_own.Given as goal

abbrev pub invariant-loop-line : goal.invariant-loop-line
invariant-loop-line l = map part_view l.parts.items ≡ map part_view l.fn.parts.items ++ asked_of (read_by l.fn.word) (own_lines l.fn.own.first.now (take l.line-index l.fn.own.attributes.now))
