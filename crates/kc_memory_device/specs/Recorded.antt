-- Trusted: The record of a device in memory.
use Rattle.std.specs.{Borrow.Bor, List.flat_map, Option.option_map_or, Prelude.{Bool, Err, List, None, Ok, Option, Result, Some, Vec, [], bytes_eq, false, fold, if◌then◌else◌, option_map, string_bytes, ℕ, ◌∷◌}, declared.alloc.Global.Global}
use Rattle.kc_io.specs.{Log.{Event, Log, after, did, each_byte, failed}, declared.device.{Action.{Action, TheVariants.{Read, Write}}, Fault.Fault}}
use Rattle.kc_memory_device.specs.declared.record.Record.{Record}

-- the events of a call with these bytes; none at the end of a file
abbrev pub done : Action → List ℕ → List ℕ → List Event
done (Write site) name bytes = each_byte (Write site) name bytes
done Read name [] = did Read name
done Read name (byte ∷ bytes) = each_byte Read name (byte ∷ bytes)
done action name bytes = did action name

-- the same, or the events of a call that failed
abbrev pub asked : Action → List ℕ → List ℕ → Option Fault → List Event
asked action name bytes None = done action name bytes
asked action name bytes (Some fault) = failed action name fault

abbrev pub events_in : Record → List Event
events_in r = asked r.action (string_bytes r.name) r.bytes.items r.fault

abbrev pub events_of : List Record → List Event
events_of records = flat_map events_in records

-- the content of a file at first: that of the first file of its name
abbrev pub first_held : List (Bor (List ℕ) × Bor (List ℕ)) → List ℕ → Option (List ℕ)
first_held [] name = None
first_held (file ∷ files) name = if bytes_eq name file.0.now then Some file.1.now else first_held files name

abbrev pub told : (List ℕ → Option (List ℕ)) → Option (Vec Record Global) → List ℕ → Log
told files records said = option_map (λ r. record { files = files; events = events_of r.items; said = said }) records

-- the content of a file after all calls
abbrev pub held_after : List (Bor (List ℕ) × Bor (List ℕ)) → List Record → List ℕ → Option (List ℕ)
held_after first records name = (fold (after name) (record { held = first_held first name; beside = [] }) (events_of records)).held

abbrev pub is_held_after : List (Bor (List ℕ) × Bor (List ℕ)) → List Record → List ℕ → List ℕ → Bool
is_held_after first records name bytes = option_map_or (λ found. bytes_eq found bytes) (held_after first records name) false

-- the events of a call with this result
abbrev pub outcome : Result (Unit {0}) Fault → Action → List ℕ → List ℕ → List Event
outcome (Ok _) action name bytes = done action name bytes
outcome (Err fault) action name bytes = failed action name fault
