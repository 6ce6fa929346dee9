-- For proofs: Parts of the definitions of Log, with names of their own.
use Rattle.kc_io.specs.Log.{Log, held}
use Rattle.kc_language.specs.Lines.{is_line_feed}
use Rattle.std.specs.Prelude.{ℕ, List, [], unwrap_or, Option, option_map, Bool, true, Some, None}

abbrev pub contents : Log → List ℕ → Option (List ℕ)
contents log name = option_map (λ journal. unwrap_or (held journal name) []) log
