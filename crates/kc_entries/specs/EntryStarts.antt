-- Trusted: Where the attributes of entries begin.
use Rattle.std.specs.Prelude.{ℕ, ◌≤◌, List, [], ◌∷◌}
use denote.Struct.Props.{props}
use Rattle.kc_entries.specs.declared.entries.Entry.{Entry}

-- the end of the attributes of all entries before these entries, if there are n attributes in all
abbrev pub start_of : List Entry → ℕ → ℕ
start_of [] n = n
start_of (e ∷ es) n = e.start

-- no entry's attributes begin before those of the entry before it, and none begin after the last attribute
abbrev pub AreInOrder : List Entry → ℕ → Type 0
AreInOrder [] n = Unit {0}
AreInOrder (e ∷ es) n = (e.start ≤ start_of es n) × AreInOrder es n

-- any two proofs of it are equal
pub order-prop : (es : List Entry) (n : ℕ) → IsProp (AreInOrder es n)
order-prop [] n = λ x y i. tt
order-prop (e ∷ es) n = let first : IsProp (e.start ≤ start_of es n) = hlevel props in λ x y i. (first x.0 y.0 i, order-prop es n x.1 y.1 i)
