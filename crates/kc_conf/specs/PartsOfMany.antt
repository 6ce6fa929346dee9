-- For proofs: Names for parts of the definitions of Many.
use Rattle.std.specs.Prelude.{ℕ, List, [], Option, None}
use Rattle.kc_outcome.specs.declared.outcome.Delivery.{Delivery}

-- what was reported before the rest of an outcome: this, unless a name is refused
abbrev pub told_before : List ℕ → Option (List ℕ) → List ℕ
told_before told refused = elim refused [ None ↦ told | _ ↦ [] ]

-- which of these files are written
abbrev pub written_by : Delivery → List (List ℕ) → List (List ℕ)
written_by how names = elim how [ Delivery.Check ↦ [] | _ ↦ names ]
