use Rattle.std.proofs.Common.{length, take, ◌-◌, ◌≡◌, ◌≤◌}
use Rattle.kc_input.specs.{Feeding.{Feeds, fed}, LineByLine.IsOpen, ReaderView.position_of}
use Rattle.kc_input.proofs.line_buffer.take_piece.Given as goal

-- the bytes so far were taken
abbrev pub invariant-loop-at : goal.invariant-loop-at
invariant-loop-at l = record {
  within : l.at ≤ length l.piece;
  taken : Feeds l.stream.tree.now l.stream.prefix.now l.stream.name.now (take l.at l.piece) (position_of l.fn.line_buffer) (position_of l.line_buffer)
      l.fn.user l.user l.fn.told.items l.told.items;
  position : position_of l.line_buffer ≡ fed (take l.at l.piece) (position_of l.fn.line_buffer);
  opened : IsOpen l.stream (position_of l.line_buffer) l.user;
}

abbrev pub decreases-loop-at : goal.decreases-loop-at
decreases-loop-at l = length l.piece - l.at
