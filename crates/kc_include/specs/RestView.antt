-- For proofs: The unread rest of a piece.
use Rattle.std.specs.Prelude.{List, ℕ}
use Rattle.kc_include.specs.{Included.read_as, declared.device.Rest.Rest}

abbrev pub ahead : Rest → List ℕ
ahead rest = read_as rest.empty_lines rest.bytes.now
