-- What a read gives of a file in memory.
use Rattle.std.proofs.{Common.{Bool, List, None, Option, Some, ap, arith, drop, drop-drop, false, if◌then◌else◌, length, length-append, length-drop, min, option_map, refl, sym, take, true, ℕ, ◌++◌, ◌+◌, ◌-◌, ◌∙◌, ◌≡◌, ◌≤◌}, lemmas.List.{length-take-le, nil_from_length, take-append-drop, take-append-le, take_all}}
use Rattle.kc_io.specs.Log.{IsAtEnd, ReadsOn}

abbrev pub to_come : Bool → List ℕ → ℕ → Option (List ℕ)
to_come told bytes at = if told then Some (drop at bytes) else None

-- the front of what is left, and what is left behind it
pub given : (left more : List ℕ) (count : ℕ) → count ≤ length left → take count (take count left ++ more) ≡ take count left
given left more count small =
    let whole : length (take count left) ≡ count = omega (arith, length-take-le count left) in
    take-append-le count (take count left) more (omega (arith, whole)) ∙ take_all count (take count left) (omega (arith, whole))

pub split : (told : Bool) (bytes more : List ℕ) (at count : ℕ) → count ≤ length (drop at bytes) → to_come told bytes at ≡ option_map (λ rest. take count (take count (drop at bytes) ++ more) ++ rest) (to_come told bytes (at + count))
split false bytes more at count small = refl
split true bytes more at count small =
    ap Some (sym (take-append-drop count (drop at bytes)) ∙ ap (λ (l : List ℕ). take count (drop at bytes) ++ l) (drop-drop count at bytes) ∙ ap (λ (l : List ℕ). l ++ drop (at + count) bytes) (sym (given (drop at bytes) more count small)))

pub at_end : (told : Bool) (bytes : List ℕ) (at : ℕ) → length bytes ≤ at → IsAtEnd (to_come told bytes at)
at_end false bytes at h = tt
at_end true bytes at h = nil_from_length (drop at bytes) (omega (arith, h, length-drop at bytes))

pub reads_on : (told : Bool) (bytes buffer : List ℕ) (at count some most : ℕ) → at ≤ length bytes → some ≡ min (length (drop at bytes)) (length buffer) → count ≡ min some most → 1 ≤ most → ReadsOn count (take count (drop at bytes) ++ drop count buffer) (record { to_come = to_come told bytes at; reads_left = length bytes - at }) (record { to_come = to_come told bytes (at + count); reads_left = length bytes - (at + count) })
reads_on told bytes buffer at count some most within is_some is_count one = record {
  bytes = split told bytes (drop count buffer) at count (omega (arith, is_some, is_count));
  end = λ none room. at_end told bytes (at + count) (omega (arith, is_some, is_count, none, one, within, length-drop at bytes, length-drop count buffer, length-append (take count (drop at bytes)) (drop count buffer), length-take-le count (drop at bytes), room));
  fewer = λ some. omega (arith, is_some, is_count, within, length-drop at bytes, some);
}
