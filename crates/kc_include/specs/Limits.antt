-- Trusted: The maximum number of reads of a file on a disk that return bytes.
use Rattle.std.specs.Prelude.{ℕ, ◌^◌}

abbrev pub most_reads : ℕ
most_reads = 2 ^ 63
