use Rattle.std.proofs.Common.{◌≡◌, None, map, length}
use Rattle.kc_language.specs.Lines.{unread_lines}
use Rattle.kc_read.proofs.SourceLemmas.{Follows}
use Rattle.kc_read.proofs.sources.sources_of.Given as goal

abbrev pub invariant-along : goal.invariant-along
invariant-along l = record {
  clear : l.lines.refusal ≡ None;
  follows : Follows (unread_lines l.file 1) l.lines (map (λ n. n.items) l.names.items);
}

abbrev pub decreases-along : goal.decreases-along
decreases-along l = length l.lines.lines
