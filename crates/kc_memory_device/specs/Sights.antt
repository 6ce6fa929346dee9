-- For proofs: The remaining bytes, as the code stores them.
use Rattle.std.specs.{Borrow.Bor, Prelude.{List, Option, option_map, ℕ}}
use Rattle.kc_memory_device.specs.{Stripped.Seen, declared.sight.Sight.Sight}

abbrev pub bytes_of : Option (Bor (List ℕ)) → Option (List ℕ)
bytes_of rest = option_map (λ r. r.now) rest

abbrev pub seen : Sight → Seen
seen s = record { held = bytes_of s.held; beside = bytes_of s.beside }
