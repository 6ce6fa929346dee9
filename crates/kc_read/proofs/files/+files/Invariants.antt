use Rattle.std.proofs.Common.{List, None, [], length, ℕ, ◌*◌, ◌+◌, ◌-◌, ◌≡◌}
use Rattle.kc_language.specs.{Expansion.{FileContext, ReadSoFar}, Lines.unread_lines}
use Rattle.kc_expr.specs.Names.{Extends}
use Rattle.kc_read.specs.{Files.files_in, Progress.{AreWithinLimits, HasAdvanced, IsState}}
use Rattle.kc_read.proofs.files.+files.Given as goal

abbrev pub decreases-read_file : goal.decreases-read_file
decreases-read_file l = 4 * (64 - length l.progress.now.open_files.items) + 3

abbrev pub decreases-read_next : goal.decreases-read_next
decreases-read_next l = 4 * (64 - length l.progress.now.open_files.items) + 2

abbrev pub decreases-read_statement : goal.decreases-read_statement
decreases-read_statement l = 4 * (64 - length l.progress.now.open_files.items) + 1

abbrev pub decreases-source : goal.decreases-source
decreases-source l = 4 * (64 - length l.progress.now.open_files.items)

abbrev pub invariant-read_file-loop-tokens : goal.invariant-read_file-loop-tokens
invariant-read_file-loop-tokens l = record {
  read : (first : List (List ℕ)) (a : FileContext) (log : ReadSoFar) → IsState first l.fn.names a [] log l.fn.progress l.fn.frame →
      HasAdvanced (files_in l.reader.map.now) first l.names a (unread_lines l.file 1) l.lines [] log l.progress l.frame;
  clear : l.lines.refusal ≡ None;
  within : AreWithinLimits l.frame l.progress;
  same_open : l.progress.open_files.items ≡ l.fn.progress.open_files.items;
  names : Extends l.fn.names l.names;
}

abbrev pub decreases-read_file-loop-tokens : goal.decreases-read_file-loop-tokens
decreases-read_file-loop-tokens l = length l.lines.lines
