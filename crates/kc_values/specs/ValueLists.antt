-- Trusted: The places of a list of values.
use Rattle.std.specs.{Prelude.{List, None, Option, Some, option_map, slice_get, slice_index_or, suc, zero, ℕ, ◌+◌, ◌<◌, ◌≡◌}, declared.{alloc.Global.Global, vec.Vec.Vec}}
use Rattle.kc_language.specs.declared.expressions.Tri.{TheVariants.{M, N, Y}, Tri}
use Rattle.kc_values.specs.declared.table.Value.{TheVariants.{Text, Truth}, Value}

-- the number of a truth value
abbrev pub truth_number : Tri → ℕ
truth_number N = 1
truth_number M = 2
truth_number Y = 3

-- what the number of a place stands for: nothing, a truth value, or one of the texts, counted from 4
abbrev pub value_of_number : List (Vec ℕ Global) → ℕ → Option Value
value_of_number texts zero = None
value_of_number texts (suc zero) = Some (Truth N)
value_of_number texts (suc (suc zero)) = Some (Truth M)
value_of_number texts (suc (suc (suc zero))) = Some (Truth Y)
value_of_number texts (suc (suc (suc (suc n)))) = option_map Text (slice_get texts n)

-- each number belongs to one of `count` texts, if it is not below them, and no two places have the same text
pub record AreOwnTexts (numbers : List ℕ) (count : ℕ) : Type 0 where
  pub within : (i : ℕ) → slice_index_or numbers i 0 < count + 4
  pub own : (i j n : ℕ) → slice_index_or numbers i 0 ≡ n + 4 → slice_index_or numbers j 0 ≡ n + 4 → i ≡ j

-- the text that a place holds
abbrev pub held_text : Option Value → Option (List ℕ)
held_text None = None
held_text (Some (Truth t)) = None
held_text (Some (Text v)) = Some v.items

-- both are nothing, the same truth value, or texts of the same bytes
abbrev pub IsSameValue : Option Value → Option Value → Type 0
IsSameValue None None = Unit {0}
IsSameValue None (Some b) = ⊥
IsSameValue (Some a) None = ⊥
IsSameValue (Some (Truth a)) (Some (Truth b)) = a ≡ b
IsSameValue (Some (Truth a)) (Some (Text b)) = ⊥
IsSameValue (Some (Text a)) (Some (Truth b)) = ⊥
IsSameValue (Some (Text a)) (Some (Text b)) = a.items ≡ b.items
