-- For proofs: The code's view of a file.
use Rattle.std.specs.Prelude.{option_map}
use Rattle.kc_io.specs.Log.{Spot}
use Rattle.kc_memory_device.specs.declared.replay.Stand.{Stand}

abbrev pub spot_view : Stand → Spot
spot_view stand = record { held = option_map (λ h. h.items) stand.held; beside = stand.beside.items }
