-- Trusted: The meaning of the fields of a reader.
use Rattle.kc_input.specs.{Feeding.StreamPosition, declared.line_buffer.LineBuffer.LineBuffer}

abbrev pub position_of : LineBuffer → StreamPosition
position_of line_buffer = record { number = line_buffer.number; pending = line_buffer.pending.items }
