-- Trusted: What reading named input files of .config text gives: the user values, the lines that gave them and the warnings.
use Rattle.std.specs.Prelude.{ℕ, ◌++◌, List}
use Rattle.kc_language.specs.ConfigFile.{ReadResult}

abbrev pub with_warnings : List ℕ → ReadResult → ReadResult
with_warnings warned read = record { input = read.input; warned = warned ++ read.warned; stopped = read.stopped }
