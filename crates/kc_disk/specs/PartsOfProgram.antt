-- For proofs: Names for parts of the definitions of Program.
use Rattle.kc_disk.specs.Program.{EndsUsage, SaysUsage}
use Rattle.kc_io.specs.Log.{Log}
use Rattle.kc_language.specs.Lines.{is_whole_lines}
use Rattle.kc_outcome.specs.declared.outcome.Status.{Status}
use Rattle.kc_words.specs.declared.usage.UsageError.{UsageError}
use Rattle.kc_words.specs.declared.usage.UsageError.TheVariants.{Help, Version, Bad, Memory}
use Rattle.std.specs.IoError.{error_kind}
use Rattle.std.specs.Prelude.{ℕ, List, codes, ◌≡◌, ◌≢◌, string_bytes, ⊤, [], if◌then◌else◌, ◌++◌}
use Rattle.std.specs.declared.io.Error.{Error}
use Rattle.std.specs.declared.io.ErrorKind.TheVariants.{OutOfMemory}

abbrev pub no_text : List ℕ
no_text = codes "error: invalid UTF-8 was detected in one or more arguments\n\nFor more information, try '--help'.\n"

abbrev pub AreUnread : Error → UsageError → Type 0
AreUnread error (Help text) = ⊥
AreUnread error Version = ⊥
AreUnread error (Bad text) = (error_kind error ≢ OutOfMemory) × (string_bytes text ≡ no_text)
AreUnread error Memory = ⊤

abbrev pub SaysClash : UsageError → Status → Log → Log → Type 0
SaysClash usage status old new = EndsUsage usage status × SaysUsage usage old new

abbrev pub line_end : List ℕ → List ℕ
line_end text = if is_whole_lines text then [] else codes "\n"

abbrev pub ended_text : List ℕ → List ℕ
ended_text text = text ++ line_end text
