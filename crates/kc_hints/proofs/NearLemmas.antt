-- Names that are near, name by name.
use Rattle.std.proofs.Common.{◌≡◌, ℕ, ◌+◌, ◌<◌, ◌≤◌, ◌==◌, ◌&&◌, List, [], ◌∷◌, ◌++◌, Bool, true, false, Option, Some, if◌then◌else◌, map, take, drop, length, refl, sym, ap, ◌∙◌, arith, append_assoc, append-nil}
use Rattle.std.specs.Borrow.{Bor}
use Rattle.std.specs.List.{list_all}
use Rattle.std.specs.Prelude.{slice_get}
use Rattle.std.proofs.lemmas.Bool.{eq-eqb}
use Rattle.std.proofs.lemmas.List.{drop_more, length-map, take-append-le, take_all}
use Rattle.std.proofs.lemmas.List.Folds.{list_all-map}
use Rattle.std.proofs.lemmas.Option.{get_or_from_slice_get, slice_get_within}
use Rattle.kc_language.specs.Expressions.{symbol}
use Rattle.kc_language.specs.Symbols.{TreeFacts}
use Rattle.kc_hints.specs.Near.{are_same_parts, count_of, is_near, may_give, most_names, near_from}

-- the parts, as they are pointed to
pub same_parts : (one other : List (Bor (List ℕ))) (r : Bool) → length one ≡ length other →
    r ≡ list_all (λ part. count_of part.now (map (λ part. part.now) one) == count_of part.now (map (λ part. part.now) other)) one →
    r ≡ are_same_parts (map (λ part. part.now) one) (map (λ part. part.now) other)
same_parts one other r len is =
    let lengths : (length (map (λ (part : Bor (List ℕ)). part.now) one) == length (map (λ (part : Bor (List ℕ)). part.now) other)) ≡ true =
    eq-eqb _ _ (length-map one (λ part. part.now) ∙ len ∙ sym (length-map other (λ part. part.now))) in
    rw lengths (is ∙ sym (list_all-map (λ (part : List ℕ). count_of part (map (λ part. part.now) one) == count_of part (map (λ part. part.now) other)) (λ part. part.now) one))

-- three names were found
pub found_all : (found rest whole : List (List ℕ)) → most_names ≤ length found → length found ≤ most_names → take most_names (found ++ rest) ≡ whole → found ≡ whole
found_all found rest whole most few is = sym (take_all most_names found few) ∙ sym (take-append-le most_names found rest most) ∙ is

-- one name more
module _ (tree : TreeFacts) (told : Option (List ℕ)) (asked : List ℕ) where
  next_by : (i : ℕ) (name : List ℕ) (names found : List (List ℕ)) (given : Bool) → given ≡ (may_give tree told (symbol i) name && is_near asked name) →
      found ++ near_from tree told asked i (name ∷ names) ≡ (if given then found ++ name ∷ [] else found) ++ near_from tree told asked (i + 1) names
  next_by i name names found true is = rw (sym is) (sym (append_assoc found (name ∷ []) (near_from tree told asked (i + 1) names)))
  next_by i name names found false is = rw (sym is) refl

  pub near_next : (i : ℕ) (name : List ℕ) (found : List (List ℕ)) (given : Bool) → slice_get tree.names i ≡ Some name →
      given ≡ (may_give tree told (symbol i) name && is_near asked name) →
      found ++ near_from tree told asked i (drop i tree.names) ≡ (if given then found ++ name ∷ [] else found) ++ near_from tree told asked (i + 1) (drop (i + 1) tree.names)
  near_next i name found given at is =
      let within = slice_get_within tree.names i name at in
      rw (drop_more tree.names i [] within, get_or_from_slice_get tree.names i name [] at) (next_by i name (drop (i + 1) tree.names) found given is)
